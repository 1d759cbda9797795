use Rattle.std.proofs.Common.{◌^◌, ◌<◌, decimal, ◌∙◌, arith}
use Rattle.patch.specs.Output.{Puts}
use Rattle.patch.proofs.Putting.{number_one, number_more, number_near}
use Rattle.patch.proofs.text.Output.+number.Goals.{then-n-ge10, else-n-ge10}
use Rattle.patch.proofs.text.Output.+number.Goals as goal

pub returns : goal.returns
returns t c =
    let n = c.args.n in
    let small : n < 2 ^ 64 = omega arith in
    let all : Puts c.args.self.now (decimal n) c.text.new.self =
    elim c.if-n-ge10.branch [
      | then-n-ge10 w ↦
          let last = rw w.self-is at c.text.ensures.puts in
          record { same = last.same ∙ w.number.ensures.puts.same; put = number_more n w.if-n-ge10.true small w.number.ensures.puts.put last.put }
      | else-n-ge10 w ↦ let last = rw w.self-is at c.text.ensures.puts in record { same = last.same; put = number_one n w.if-n-ge10.false last.put }
    ] in record { puts = all; near = number_near n small all.put }
