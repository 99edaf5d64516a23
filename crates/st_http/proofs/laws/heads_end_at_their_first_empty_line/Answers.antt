use Rattle.st_http.proofs.Lines.{request_ends, response_ends}
use Rattle.st_http.proofs.laws.heads_end_at_their_first_empty_line.Goals as goal

pub returns : goal.returns
returns c = (request_ends, response_ends)
