-- Bytes that wait are written from the front.
use Rattle.std.proofs.Common.{◌≡◌, ℕ, zero, suc, ◌+◌, ◌≤◌, Option, List, [], ◌∷◌, ◌++◌, ◌⊎◌, inl, inr, length, take, drop, refl, sym, ap, ◌∙◌, append_assoc, take-append-drop, drop-drop, arith}
use Rattle.std.proofs.lemmas.List.{drop_all, take-append-le, drop-append-le}
use Rattle.std.specs.Io.KnownBytes.{Appends, Keeps}
use Rattle.std.proofs.KnownBytes.{Appends-nil, Appends-trans, Appends-kept}
use Rattle.ilpstream_log.specs.Waiting.{bytes_of, first_of, behind_first, unwritten}
use Rattle.ilpstream_log.specs.Writing.{Writes}
use Rattle.ilpstream_log.specs.declared.outlet.Outlet.{Outlet}
use Rattle.ilpstream_log.specs.declared.waiting.Line.{Line}
use Rattle.ilpstream_log.specs.declared.waiting.Queue.{Queue}

behind : (lines : List Line) → bytes_of (behind_first lines) ≡ bytes_of (drop 1 lines)
behind [] = refl
behind (l ∷ ls) = refl

fresh : (lines : List Line) → unwritten lines 0 ≡ bytes_of lines
fresh [] = refl
fresh (l ∷ ls) = refl

-- part of the first line is written
pub part : (lines : List Line) (begun count : ℕ) → count ≤ length (drop begun (first_of lines)) → unwritten lines (begun + count) ≡ drop count (unwritten lines begun)
part lines begun count h =
    let rest = bytes_of (behind_first lines) in
    ap (λ (x : List ℕ). x ++ rest) (sym (drop-drop count begun (first_of lines))) ∙ sym (drop-append-le count (drop begun (first_of lines)) rest h)

-- all of it
pub whole : (lines : List Line) (begun count : ℕ) → count ≡ length (drop begun (first_of lines)) → unwritten (drop 1 lines) 0 ≡ drop count (unwritten lines begun)
whole lines begun count e =
    let first = drop begun (first_of lines) in
    let rest = bytes_of (behind_first lines) in
    let over = drop-append-le count first rest (omega (arith, e)) in
    let none = drop_all count first (omega (arith, e)) in
    fresh (drop 1 lines) ∙ sym (behind lines) ∙ sym (over ∙ ap (λ (x : List ℕ). x ++ rest) none)

-- what is written, and then what is left
split : (lines : List Line) (begun count : ℕ) → count ≤ length (drop begun (first_of lines)) → unwritten lines begun ≡ take count (drop begun (first_of lines)) ++ drop count (unwritten lines begun)
split lines begun count h =
    let all = unwritten lines begun in
    sym (take-append-drop count all) ∙ ap (λ (x : List ℕ). x ++ drop count all) (take-append-le count (drop begun (first_of lines)) (bytes_of (behind_first lines)) h)

-- a line leaves, or none
left_behind : {X : Type 0} (old new : List X) → (new ≡ old) ⊎ (new ≡ drop 1 old) → (gone : ℕ) × (new ≡ drop gone old)
left_behind old new (inl e) = (0, e)
left_behind old new (inr e) = (1, e)

pub nothing : {W : Type 0} (contents : W → Option (List ℕ)) (o : Outlet W) → Writes contents o o
nothing contents o = record {
  bytes = [];
  appends = Appends-nil (contents o.writer);
  waited = refl;
  gone = 0;
  lines = refl;
  lost = refl;
}

pub more : {W : Type 0} (contents : W → Option (List ℕ)) (a b c : Outlet W) → Writes contents a b → Writes contents b c → Writes contents a c
more contents a b c x y = record {
  bytes = x.bytes ++ y.bytes;
  appends = Appends-trans (contents a.writer) (contents b.writer) (contents c.writer) x.bytes y.bytes x.appends y.appends;
  waited = x.waited ∙ ap (λ (t : List ℕ). x.bytes ++ t) y.waited ∙ sym (append_assoc x.bytes y.bytes (unwritten c.queue.lines.items c.queue.begun));
  gone = x.gone + y.gone;
  lines = y.lines ∙ ap (λ ls. drop y.gone ls) x.lines ∙ drop-drop y.gone x.gone a.queue.lines.items;
  lost = y.lost ∙ x.lost;
}

-- ---- one call of the writer

-- it accepted some bytes of the first line
pub took : {W : Type 0} (contents : W → Option (List ℕ)) (old new : Outlet W) (count : ℕ)
    → Appends (contents old.writer) (contents new.writer) (take count (drop old.queue.begun (first_of old.queue.lines.items)))
    → count ≤ length (drop old.queue.begun (first_of old.queue.lines.items))
    → unwritten new.queue.lines.items new.queue.begun ≡ drop count (unwritten old.queue.lines.items old.queue.begun)
    → (new.queue.lines.items ≡ old.queue.lines.items) ⊎ (new.queue.lines.items ≡ drop 1 old.queue.lines.items)
    → new.queue.lost ≡ old.queue.lost
    → Writes contents old new
took contents old new count appends few is leaves same =
    let first = drop old.queue.begun (first_of old.queue.lines.items) in
    let gone = left_behind old.queue.lines.items new.queue.lines.items leaves in
    record {
      bytes = take count first;
      appends = appends;
      waited = split old.queue.lines.items old.queue.begun count few ∙ ap (λ (t : List ℕ). take count first ++ t) (sym is);
      gone = gone.0;
      lines = gone.1;
      lost = same;
    }

-- it accepted none
pub kept : {W : Type 0} (contents : W → Option (List ℕ)) (old new : Outlet W)
    → Appends (contents old.writer) (contents new.writer) [] → new.queue ≡ old.queue → Writes contents old new
kept contents old new appends same = record {
  bytes = [];
  appends = appends;
  waited = ap (λ (q : Queue). unwritten q.lines.items q.begun) (sym same);
  gone = 0;
  lines = ap (λ (q : Queue). q.lines.items) same;
  lost = ap (λ (q : Queue). q.lost) same;
}

-- it failed
pub failed : {W : Type 0} (contents : W → Option (List ℕ)) (old new : Outlet W)
    → Keeps (contents old.writer) (contents new.writer) → new.queue ≡ old.queue → Writes contents old new
failed contents old new keeps same = kept contents old new (Appends-kept (contents old.writer) (contents old.writer) (contents new.writer) [] (Appends-nil (contents old.writer)) keeps) same
