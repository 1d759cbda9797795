use Rattle.std.proofs.Common.{refl}
use Rattle.std.specs.Fmt.{digits}
use Rattle.patch.proofs.Telling.{numbers_read_back, listing_tells}
use Rattle.patch.proofs.theorems.listing_tells_records.Goals as goal

pub returns : goal.returns
unfolding digits
returns c = record { numbers = numbers_read_back; records = listing_tells; texts = (refl, refl, refl, refl) }
