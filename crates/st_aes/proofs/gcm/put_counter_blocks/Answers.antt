use Rattle.std.proofs.Common.{ℕ, ◌+◌, ◌∙◌, arith}
use Rattle.st_aes.specs.Gcm.{counter_block}
use Rattle.st_aes.proofs.Streams.{blocks_more}
use Rattle.st_aes.proofs.gcm.put_counter_blocks.Goals as goal

pub loop-m-preserved : goal.loop-m-preserved
loop-m-preserved c =
    let l = c.loop-m in
    record {
      long = c.put_block.ensures.long ∙ l.invariant.long;
      done = blocks_more (λ (b : ℕ). counter_block c.args.iv (c.args.first + b)) l.out _ c.counter_block.result l.m c.put_block.ensures.bytes c.counter_block.ensures l.invariant.done;
    }

pub returns-clause-cells : goal.returns-clause-cells
returns-clause-cells c i lt = c.loop-m.invariant.done i (omega arith)
