use Rattle.std.proofs.Common.{rules}
use borrow.Author.Tests.{tests}
use Rattle.std.proofs.lemmas.Iterator.{cases_from_all, YieldsList-from_slice, YieldsList-from_zip}
use Rattle.forms.proofs.Equal.{Equal, Other, Told, alike_if_equal, equal_if_alike}
use Rattle.forms.proofs.alike.same_strips.Goals as goal

pub returns : goal.returns
returns g c =
    let code = g.S.Strip.code in
    let a = c.args.a.now in
    let b = c.args.b.now in
    let told : Told code a b c.all.result = cases_from_all c.all.new.self tt c.all.result (Equal code) (Other code) c.all.ensures.ran (YieldsList-from_zip (YieldsList-from_slice a (cc)) (YieldsList-from_slice b (cc))) (λ x q k. search (rules, tests)) (λ x q k. search (rules, tests)) in
    record { same = alike_if_equal code a b _ told; all = equal_if_alike code a b _ told }
