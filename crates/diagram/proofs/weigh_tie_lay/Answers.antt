use Rattle.diagram.proofs.Outlets as outs
use Rattle.diagram.proofs.Tying as tying
use Rattle.diagram.proofs.weigh_tie_lay.Goals as goal

pub returns : goal.returns
returns g c = record {
  weighed = λ F n C x ne can. (outs.weighed F n C x can ne, outs.weighed_rule F n C x can);
  tied = λ F n D q v off dif form l ties. (tying.tied_formed F n D q v off dif form l ties, tying.tied_rule F n D q v off dif form l ties);
  laidformed = λ F. tying.laid_formed F;
  laid = λ F. tying.laid F;
  movedformed = λ F. tying.moved_formed F;
  moved = λ F. tying.moved_rule F;
}
