use Rattle.std.proofs.Common.{◌≡◌, ◌∙◌, ℕ, true, ap, sym, subst, filter, length}
use Rattle.st_unacked.specs.Runs.{shown_by, status_at, is_kept, IsTiled}
use Rattle.st_unacked.specs.Chunks.{byte_in, covers, is_held, Laid, EachHas, IsTidy}
use Rattle.st_unacked.proofs.Neighbours.{same_view, same_tiled}
use Rattle.st_unacked.proofs.Views.{same_bytes}
use Rattle.st_unacked.proofs.Blocks.{filtered_laid, filtered_held, filtered_stays}
use Rattle.st_unacked.proofs.unacked.tidy.Goals as goal

pub returns-clause-same : goal.returns-clause-same
returns-clause-same g c =
    let joined = c.join.ensures 0 c.requires.rise in
    let kept = λ (q : ℕ). is_kept (status_at c.join.new.runs.items q) in
    same_view c.args.runs.now.items c.join.new.runs.items (byte_in c.let_go.new.chunks.items) 0 c.args.accepted joined.same
    ∙ same_bytes c.args.runs.now.items (byte_in c.args.chunks.now.items) (byte_in c.let_go.new.chunks.items) 0 c.args.accepted
    (λ q h. ap (λ cs. byte_in cs q) c.let_go.ensures.items
    ∙ (filtered_stays kept c.args.chunks.now.items q (ap is_kept (joined.same q) ∙ h) (c.requires.covered q h)).byte)

pub returns-clause-tidy : goal.returns-clause-tidy
returns-clause-tidy g c =
    let joined = c.join.ensures 0 c.requires.rise in
    let kept = λ (q : ℕ). is_kept (status_at c.join.new.runs.items q) in
    record {
      tiled = same_tiled c.args.runs.now.items c.join.new.runs.items 0 c.args.accepted joined.same c.requires.tiled;
      parted = joined.parted;
      laid = subst (Laid 0 c.args.accepted) (sym c.let_go.ensures.items) (filtered_laid kept 0 c.args.accepted c.args.chunks.now.items c.requires.laid);
      covered = λ q h. ap (λ cs. covers cs q) c.let_go.ensures.items
          ∙ (filtered_stays kept c.args.chunks.now.items q h (c.requires.covered q (sym (ap is_kept (joined.same q)) ∙ h))).covers;
      held = subst (EachHas kept) (sym c.let_go.ensures.items) (filtered_held kept c.args.chunks.now.items);
      freed = c.let_go.ensures.freed;
    }
