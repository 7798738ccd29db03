-- The laws, part by part.
use Rattle.hv_model.proofs.Mapped.{step-map, told_of-map}
use Rattle.hv_model.proofs.law.content_decides_nothing.Goals as goal

pub returns : goal.returns
returns g t = record { steps = step-map; told = told_of-map }
