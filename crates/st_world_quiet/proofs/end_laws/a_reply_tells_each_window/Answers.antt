use Rattle.st_world_quiet.proofs.end_laws.a_reply_tells_each_window.Goals as goal
use Rattle.st_world_quiet.proofs.Replies.{connection_in_reply, window_in_reply}

pub returns-clause-connection : goal.returns-clause-connection
returns-clause-connection g = λ r fs. connection_in_reply r fs

pub returns-clause-window : goal.returns-clause-window
returns-clause-window g = λ r fs k low high may named. window_in_reply r fs k low high may named
