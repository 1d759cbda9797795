-- What a window shows. Assumes nothing.
use Rattle.std.specs.Prelude.{◌≡◌, ℕ, cond, List, []}
use Rattle.patch.specs.declared.setup.Setup.{Setup}
use Rattle.patch.specs.declared.window.Patch.{Patch as Window}
use Rattle.patch.specs.declared.window.Records.{Records}
use Rattle.patch.specs.Admitted.{examined, passes}
use Rattle.patch.specs.Orders.{listed}
use Rattle.patch.specs.Records.{Record, records}

abbrev pub seen : Window → List ℕ
seen w = w.bytes.now

-- the records that are to come
abbrev pub records_left : Records → List Record
records_left s = records s.bytes.now

-- a window taken on some bytes: it shows them if they pass the check, and else no bytes
pub record Admits (bytes : List ℕ) (setup : Setup) (w : Window) : Type 0 where
  pub by_setup : w.setup ≡ setup
  pub shows : seen w ≡ cond (passes (examined (listed setup.order) setup.places setup.codes bytes)) bytes []
