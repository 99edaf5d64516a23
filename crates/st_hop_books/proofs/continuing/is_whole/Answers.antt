use Rattle.std.proofs.Common.{sym, ◌∙◌, ap, ap₂, take, false}
use Rattle.sqlite_wal.specs.Format.{checksum}
use Rattle.sqlite_wal.proofs.FormatLemmas.{same_sums, pair}
use Rattle.st_hop_books.proofs.continuing.is_whole.Goals as goal

pub returns : goal.returns
returns c =
    let decides = same_sums _ _ _ c.eq.ensures in
    let stored = ap₂ pair c.get_le32.ensures c.get_le32-2.ensures in
    let ours = c.checksum_of.ensures ∙ ap (λ n. checksum false (0, 0) (take n c.args.page.now)) c.requires.used in (
      λ same. sym ours ∙ decides.0 same ∙ stored,
      λ whole. decides.1 (ours ∙ whole ∙ sym stored),
    )
