use Rattle.diagram.specs.Diagram.{val}
use Rattle.diagram.proofs.Cells as cells
use Rattle.diagram.proofs.Levels as lev
use Rattle.diagram.proofs.Props as props
use Rattle.diagram.proofs.cells_are_independent.Goals as goal

pub returns : goal.returns
returns g c = record {
  independent = λ F n D ech b l. lev.independent_less F b D.places (val F n D) l (cells.independent F n D ech);
  once = λ F n f D. props.cells_prop F n D f;
}
