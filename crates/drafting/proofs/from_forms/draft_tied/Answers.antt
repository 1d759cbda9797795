use Rattle.std.proofs.Common.{drop, ◌++◌}
use Rattle.settling.proofs.Fronts.{Front, front_put, beyond_put, sound_front}
use Rattle.drafting.proofs.Fronts.{drafts_front}
use Rattle.drafting.proofs.from_forms.draft_tied.Goals as goal

pub returns : goal.returns
returns g c =
    let s = g.S.Strip in
    let M = g.S.Codes.Scale.model in
    let v = c.args.work.now in
    let w = c.draft_tied_work-draft.new.work in
    let d = c.draft_tied_work-draft.result in
    let after : Front s.code w (w ++ drop 512 v) = front_put s.code v w c.requires.room c.still_whole.ensures in
    record {
      sound = sound_front M s.code w _ after s.len d c.draft_tied_work-draft.ensures.sound;
      means = λ known fP. drafts_front s.code w _ after M d _ _ (c.draft_tied_work-draft.ensures.means known fP);
      beyond = beyond_put s.code v w c.requires.room c.still_whole.ensures;
    }
