use Rattle.runs.proofs.run_law_stands.Goals as goal
use Rattle.runs.proofs.Theorem.{kept}

pub returns : goal.returns
returns c = record { law = λ f bound pr acc h s x run. kept f bound pr acc run }
