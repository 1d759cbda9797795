use Rattle.std.proofs.Common.{rules, ◌≡◌, ℕ, ◌+◌, ◌<◌, ◌≤◌, ◌≢◌, get_or, sym, refl, ap, ◌∙◌, subst, arith}
use Rattle.elimination.specs.Lift.{up, vec, scalars, Grid}
use Rattle.strip.specs.Row.{Row}
use Rattle.elimination.specs.Rows.{Rows}
use Rattle.elimination.proofs.Lifting.{up_is_zero, up_none}
use Rattle.elimination.proofs.Sums.{at}
use Rattle.settling.specs.Draft.{drawn}
use Rattle.settling.specs.Trimming.{Trimming}
use Rattle.settling.proofs.Forth.{turned}
use Rattle.settling.proofs.Insides.{rest_inside, gain_inside}
use Rattle.settling.proofs.Storing.{table_kept, off_here, off_other, dif_other, tables_kept}
use Rattle.settling.proofs.trim.split_place.Goals as goal

pub absorb-oc-requires : goal.absorb-oc-requires
absorb-oc-requires g c =
    let s = g.S.Strip in
    let M = g.S.Codes.Scale.model in
    let w = c.args.work.now in
    let m = c.args.places.now.cells in
    let h = c.args.h in
    let e = c.block_end-e.result in
    let ends : e ≤ m = c.block_end-e.ensures.ends in
    let past = rest_inside M (m + 1) (Rows s.code w 0) c.requires.tables.off (s.code c.rest_of-o.result) (Rows s.code w 256 h) (g.met.S.Strip.coded c.rest_of-o.result)
    (Grid M s.code w 256 h) h e (omega arith) (λ p l. c.requires.tables.row h p (omega arith) l) c.rest_of-o.ensures in
    (search rules, (search rules, (search rules, (search rules, (search rules, past)))))

pub absorb-dc-requires : goal.absorb-dc-requires
absorb-dc-requires g c =
    let s = g.S.Strip in
    let M = g.S.Codes.Scale.model in
    let w = c.args.work.now in
    let m = c.args.places.now.cells in
    let h = c.args.h in
    let e = c.block_end-e.result in
    let ends : e ≤ m = c.block_end-e.ensures.ends in
    let past = gain_inside M (m + 1) (Rows s.code w 128) c.requires.tables.dif (s.code c.gain_of-d.result) (g.met.S.Strip.coded c.gain_of-d.result)
    (Grid M s.code w 256 h) h e (omega arith) c.gain_of-d.ensures in
    (search rules, (search rules, (search rules, (search rules, (search rules, past)))))

pub returns : goal.returns
returns g c =
    let s = g.S.Strip in
    let M = g.S.Codes.Scale.model in
    let pos = c.args.places.now.pos in
    let m = c.args.places.now.cells in
    let h = c.args.h in
    let e = c.block_end-e.result in
    let block = c.block_end-e.ensures in
    let w₀ = c.args.work.now in
    let w₁ = c.absorb-oc.new.work in
    let w₂ = c.absorb-dc.new.work in
    let w₃ = c.store.new.work in
    let w₄ = c.store-2.new.work in
    let oc = s.code c.absorb-oc.result in
    let dc = s.code c.absorb-dc.result in
    let off = c.store.ensures in
    let dif = c.store-2.ensures in
    let short : s.len ≤ 128 = g.met.S.Strip.short in
    let h_in : h < 128 = omega arith in
    let m_in : m < 128 = omega arith in
    let kept : (b k : ℕ) → b + k < 256 → Rows s.code w₂ b k ≡ Rows s.code w₀ b k = λ b k l. c.absorb-dc.ensures.outside.before b k (omega arith) ∙ c.absorb-oc.ensures.outside.before b k (omega arith) in
    let row : Rows s.code w₄ 256 ≡ Rows s.code w₂ 256 = table_kept s.code w₂ w₃ w₄ h h_in oc dc off.row off.outside dif.row dif.outside in
    let off_other : (k : ℕ) → k ≢ h → k < 128 → Rows s.code w₄ 0 k ≡ Rows s.code w₀ 0 k = λ k n l. off_other s.code w₂ w₃ w₄ h h_in oc dc off.row off.outside dif.row dif.outside k n l ∙ kept 0 k (omega arith) in
    let dif_other : (k : ℕ) → k ≢ h → k < 128 → Rows s.code w₄ 128 k ≡ Rows s.code w₀ 128 k = λ k n l. dif_other s.code w₂ w₃ w₄ h h_in oc dc off.row off.outside dif.row dif.outside k n ∙ kept 128 k (omega arith) in
    record {
      tables = tables_kept s.code w₂ w₃ w₄ h h_in oc dc off.row off.outside dif.row dif.outside m m_in
          (record {
            shape = c.absorb-dc.ensures.shape;
            row = c.absorb-dc.ensures.inside;
            off = λ k p l b. at (kept 0 k (omega arith)) p ∙ c.requires.tables.off k p l b;
            dif = λ k p l b. at (kept 128 k (omega arith)) p ∙ c.requires.tables.dif k p l b;
          })
          (λ p l. up_none M _ (g.met.S.Strip.coded c.absorb-oc.result p) (c.absorb-oc.ensures.absorbed.past p l))
          (λ p l. up_none M _ (g.met.S.Strip.coded c.absorb-dc.result p) (c.absorb-dc.ensures.absorbed.past p l));
      step = λ off_ dif_ out out' formed t.
          subst (λ (R : ℕ → Row). Trimming (scalars M) (get_or pos m 0) m (drawn m pos off_ dif_ out) (λ k u. up M (R k u)) (Grid M s.code w₄ 0) (Grid M s.code w₄ 128) out' (h + 1)) (sym row)
          (turned (scalars M) (get_or pos m 0) m (drawn m pos off_ dif_ out) formed refl (omega arith) c.args.places.now.order.cells (λ a b l k. c.args.places.now.order.rising a b l (omega arith))
          (Grid M s.code w₀ 256) (λ k u l b. up_is_zero M (c.requires.tables.shape.low k u l b)) h e c.requires.below block.some block.ends
          block.same (λ v l k. block.later v l (omega arith))
          (Grid M s.code w₀ 0) (Grid M s.code w₀ 128) out' t
          (vec M (s.code c.rest_of-o.result)) (vec M (s.code c.gain_of-d.result)) (vec M oc) (vec M dc)
          (Grid M s.code w₁ 256) (Grid M s.code w₂ 256) (Grid M s.code w₄ 0) (Grid M s.code w₄ 128)
          c.rest_of-o.ensures c.gain_of-d.ensures c.absorb-oc.ensures.absorbed c.absorb-dc.ensures.absorbed
          (λ k u l b. up_is_zero M (c.absorb-oc.ensures.shape.low k u l b)) (λ k u l b. up_is_zero M (c.absorb-dc.ensures.shape.low k u l b))
          (λ u. ap (up M) (at (off_here s.code w₂ w₃ w₄ h h_in oc dc off.row off.outside dif.row dif.outside) u)) (λ k u n l. ap (up M) (at (off_other k n (omega arith)) u))
          (λ u. ap (up M) (at dif.row.here u)) (λ k u n l. ap (up M) (at (dif_other k n (omega arith)) u)));
    }
