use Rattle.std.proofs.Common.{rules, ◌≡◌, ◌≤◌, length, take, arith}
use Rattle.elimination.specs.Rows.{Rows}
use Rattle.patch.proofs.Putting.{put_length}
use Rattle.forms.specs.Continued.{Continued}
use Rattle.forms.specs.Forms.{form_bytes}
use Rattle.forms.proofs.Continuing.{then_put, as_put}
use Rattle.forms.proofs.Filling.{row_read}
use Rattle.forms.proofs.Writing.{joined, first_bytes}
use Rattle.forms.proofs.encoding.encode.Goals as goal

pub returns : goal.returns
returns g c =
    let code = g.S.Strip.code in
    let form = c.args.form.now in
    let xs = form.strips.now in
    let inputs = form.inputs.now in
    let n = length inputs in
    let outlet = c.index-strips-0 in
    let end = c.put_arcs.new.self in
    let most : end.at ≤ 4096 = omega (arith, form.few, c.put_arcs.ensures.most, c.put_rows.ensures.most) in
    let all : Continued _ (form_bytes code xs 0 n inputs) end =
    as_put (joined inputs (Rows code xs 0) (Rows code xs 0 0) n _ (row_read code xs 0 outlet.result (omega (arith, form.wide)) outlet.is)) (then_put c.put_cells.ensures.puts (then_put c.put_rows.ensures.puts c.put_arcs.ensures.puts)) in
    let bytes : take end.at end.out.now ≡ form_bytes code xs 0 n inputs = first_bytes c.args.out.now _ end.out.now end.at all.puts (omega (arith, most)) in
    let name = all.same_output in
    record {
      most = most;
      long = put_length _ _ _ _ all.puts;
      bytes = search (rules, bytes, name);
    }
