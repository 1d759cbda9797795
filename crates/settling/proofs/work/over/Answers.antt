use Rattle.settling.proofs.Fitting.{fits}
use Rattle.settling.proofs.work.over.Goals as goal

pub first_chunk_mut-requires : goal.first_chunk_mut-requires
first_chunk_mut-requires g c = fits _ _ c.requires.room c.well_formed.0.1
