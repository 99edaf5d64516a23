use Rattle.std.proofs.Common.{◌≡◌, ◌*◌, sym, ap, ◌∙◌, arith}
use Rattle.st_aes.proofs.Linear.{hash_none}
use Rattle.st_aes.specs.BlockField.{hash_from}
use Rattle.st_aes.specs.Gcm.{block_of, block_number, padded, hash_key}
use Rattle.st_aes.proofs.hash.hash_start.Goals as goal

pub returns-then-groups-eq0 : goal.returns-then-groups-eq0
returns-then-groups-eq0 c =
    let none : 0 ≡ 16 * c.args.groups = omega arith in
    sym (hash_none (hash_key c.args.key.now) (λ b. block_number (padded (block_of c.args.text.now b)))) ∙ ap (hash_from (hash_key c.args.key.now) 0 (λ b. block_number (padded (block_of c.args.text.now b)))) none
