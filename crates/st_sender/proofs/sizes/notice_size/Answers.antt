use Rattle.std.proofs.Common.{◌∙◌}
use Rattle.st_sender.proofs.Lengths.{notice_packet}
use Rattle.st_sender.proofs.sizes.notice_size.Goals as goal

pub returns : goal.returns
returns c = c.packet_size.ensures ∙ notice_packet c.args.sequence c.args.notice c.notice_contents.result c.notice_contents.ensures.value
