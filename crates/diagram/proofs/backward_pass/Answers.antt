use Rattle.diagram.proofs.Backward as back
use Rattle.diagram.proofs.Pack as pack
use Rattle.diagram.proofs.Smallest as small
use Rattle.diagram.proofs.backward_pass.Goals as goal

pub returns : goal.returns
returns g c = record {
  listed = λ F w b T tidy. (pack.packed_reduced F w b T tidy, (pack.packs b w).below, pack.packed_span F w b T tidy);
  started = λ F n f D C img form one pos off dif e. (back.built_start F n f C one pos off dif, back.imaged_start F n f C one pos off dif D form img e);
  stepped = λ F n f D C C' p m T g img img' form l built image derived rows ext. (
    back.built_next F n f D C form p l img built image m T g rows C' ext derived,
    back.imaged_next F n f D C form p l img built image m T g rows C' ext img',
  );
  finished = λ F n f D C img built image same out. (
    back.built_canonical F n f D C 0 built img image same out,
    back.built_rule F n f D C 0 built img image same out,
  );
  many = λ F n f C E p built form same. small.smallest F n f C E (back.built_cells F n f C p built) form same;
  fewer = λ F. back.rows_fewer F;
}
