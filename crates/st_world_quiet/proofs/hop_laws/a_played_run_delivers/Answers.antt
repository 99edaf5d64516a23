use Rattle.st_world_quiet.proofs.hop_laws.a_played_run_delivers.Goals as goal
use Rattle.st_world_quiet.proofs.Plays.{played_bounded, played_credits, played_delivers, played_opens, played_sends, played_sharper}

pub returns-clause-bounded : goal.returns-clause-bounded
returns-clause-bounded g = λ c xs ms limit m v lawful may room run. played_bounded c xs ms limit m v lawful may room run

pub returns-clause-sharper : goal.returns-clause-sharper
returns-clause-sharper g = λ c xs ms limit m v lawful may room run. played_sharper c xs ms limit m v lawful may room run

pub returns-clause-delivered : goal.returns-clause-delivered
returns-clause-delivered g = λ c xs ms limit m v w lawful may room run none each. played_delivers c xs ms limit m v lawful may room run w none each

pub returns-clause-credit : goal.returns-clause-credit
returns-clause-credit g = λ c xs ms limit m v w lawful may room run none each. played_credits c xs ms limit m v lawful may room run w none each

pub returns-clause-sends : goal.returns-clause-sends
returns-clause-sends g = λ c xs ms limit m v w lawful may room run each. played_sends c xs ms limit m v lawful may room run w each

pub returns-clause-opens : goal.returns-clause-opens
returns-clause-opens g = λ c xs ms opened allowed begun lawful may allows_each begins_each fewer. played_opens c xs ms lawful may opened allowed begun allows_each begins_each fewer
