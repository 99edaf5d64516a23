use Rattle.st_http.proofs.Numbers.{equal_numbers}
use Rattle.st_http.proofs.laws.equal_numbers_have_equal_digits.Goals as goal

pub returns : goal.returns
returns c = equal_numbers
