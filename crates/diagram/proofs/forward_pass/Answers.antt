use Rattle.diagram.proofs.Backward as back
use Rattle.diagram.proofs.Forward as forth
use Rattle.diagram.proofs.forward_pass.Goals as goal

pub returns : goal.returns
returns g c = record {
  trimmed = λ F n D R off dif out form t. (
    forth.trimmed_formed F n D form R off dif out t,
    forth.trimmed_val F n D form R off dif out t,
    forth.trimmed_rule F n D form R off dif out t,
  );
  splits = λ F n D f p r form l from d. (forth.derived_rest F n D form p l r from f d, forth.derived_gain F n D form p l r from f d);
  lifted = λ F n D f p q r form l from d. forth.derived_lift F n D form f p q l r from d;
  summed = λ F n D f p v w x form d e. forth.derived_row F n D form f p v w x d e;
  blank = λ F. back.derived_blank F;
}
