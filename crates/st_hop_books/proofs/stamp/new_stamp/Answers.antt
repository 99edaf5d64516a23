use Rattle.st_hop_books.proofs.stamp.new_stamp.Goals as goal

pub returns-clause-stamps : goal.returns-clause-stamps
returns-clause-stamps c = (
  c.args.address.now,
  record {
    identity = c.args.identity.now;
    is = c.in_ok-text.ensures;
    defined = rw (c.as_str.ensures.value) at (c.in_ok-is_view.ensures c.if-not-branch.false);
  },
)
