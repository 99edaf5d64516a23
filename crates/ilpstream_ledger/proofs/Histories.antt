-- What accounts owe and are owed after lives and payments.
use Rattle.std.proofs.Common.{◌≡◌, ◌≢◌, ℕ, zero, suc, ◌+◌, ◌≤◌, Bool, true, false, List, [], ◌∷◌, length, get_or, set, map, slice_get, Option, Some, None, refl, sym, ap, subst, ◌∙◌, arith, if◌then◌else◌}
use Rattle.std.specs.Prelude.{bytes_eq}
use Rattle.std.proofs.lemmas.Option.{same_Some, none-some}
use Rattle.std.proofs.lemmas.Slice.Eq.{bytes_eq-Decides}
use Rattle.st_hop.specs.declared.ticket.Open.{Open}
use Rattle.st_hop.specs.Hop.{Hop, held_for, due_for}
use Rattle.st_hop.specs.Lawful.{IsLawful}
use Rattle.st_hop.specs.Runs.{run, fulfilled}
use Rattle.st_hop.proofs.HopRuns.{Gains, runs}
use Rattle.st_hop.proofs.Tables.{restored_lawful}
use Rattle.st_hop_books.specs.declared.balance.Amounts.{Amounts}
use Rattle.st_links.specs.declared.side.BalanceSide.{BalanceSide}
use Rattle.st_links.specs.declared.side.BalanceSide.TheVariants.{Claims, Dues}
use Rattle.st_hop_books.specs.declared.balance.Kind.{Kind}
use Rattle.st_hop_books.specs.Payments.{less, more, changed, on_side, paid_off, paying}
use Rattle.st_hop_books.specs.Sums.{nothing, amounts_at}
use Rattle.st_hop_books.specs.Table.{AreDistinct}
use Rattle.ilpstream_ledger.specs.Names.{Names, amounts_of}
use Rattle.ilpstream_ledger.proofs.ByName.{all_at, found, unlike}
use Rattle.ilpstream_ledger.specs.Lives.{Owed, Life, Chapter, Lives, Pays, Adjusts, claims_by, dues_by, hop_of, line_of, next_line, left_at, after_entry, after, history, Begins, Fits, AllFit, sum_at, earned_in, earned, amount_if, paid_in, paid, adjusted_in, adjusted}

-- what a list made of names has at the line of a name
shifted : (f : List ℕ → ℕ) (n : List ℕ) (names : Names) (name : List ℕ) (o : Option ℕ) (a : ℕ) → next_line o ≡ Some a → ((b : ℕ) → o ≡ Some b → get_or (map f names) b 0 ≡ f name)
    → get_or (map f (n ∷ names)) a 0 ≡ f name
shifted f n names name None a e below = absurd (none-some a e)
shifted f n names name (Some b) a e below = subst (λ k. get_or (map f (n ∷ names)) k 0 ≡ f name) (same_Some (suc b) a e) (below b refl)

headed : (f : List ℕ → ℕ) (n : List ℕ) (names : Names) (name : List ℕ) (a : ℕ) (b : Bool) → bytes_eq n name ≡ b → (if b then Some 0 else next_line (line_of names name)) ≡ Some a
    → ((c : ℕ) → line_of names name ≡ Some c → get_or (map f names) c 0 ≡ f name) → get_or (map f (n ∷ names)) a 0 ≡ f name
headed f n names name a true same e below = subst (λ k. get_or (map f (n ∷ names)) k 0 ≡ f name) (same_Some 0 a e) (ap f ((bytes_eq-Decides n name).0 same))
headed f n names name a false same e below = shifted f n names name (line_of names name) a e below

at_line : (f : List ℕ → ℕ) (names : Names) (name : List ℕ) (a : ℕ) → line_of names name ≡ Some a → get_or (map f names) a 0 ≡ f name
unfolding line_of
at_line f [] name a e = absurd (none-some a e)
at_line f (n ∷ names) name a e = headed f n names name a (bytes_eq n name) refl e (at_line f names name)

begins : (owed : Owed) (l : Life) → Begins owed l → IsLawful (hop_of owed l)
begins owed l b = restored_lawful l.own l.accounts l.routes (claims_by owed l.names) (dues_by owed l.names) l.first b.table b.books b.numbered

left_claims : (h k : Hop) (bag : List Open) (before : Amounts) (o : Option ℕ) → Gains h k bag → ((a : ℕ) → o ≡ Some a → get_or h.claims a 0 ≡ before.claims) → (left_at k o before).claims ≡ before.claims + sum_at held_for bag o
left_claims h k bag before None g is = omega arith
left_claims h k bag before (Some a) g is = let c = g.claims a in let s = is a refl in omega (arith, c, s)

left_dues : (h k : Hop) (bag : List Open) (before : Amounts) (o : Option ℕ) → Gains h k bag → ((a : ℕ) → o ≡ Some a → get_or h.dues a 0 ≡ before.dues) → (left_at k o before).dues ≡ before.dues + sum_at due_for bag o
left_dues h k bag before None g is = omega arith
left_dues h k bag before (Some a) g is = let d = g.dues a in let s = is a refl in omega (arith, d, s)

paid_claims : (owed : Owed) (to name : List ℕ) (side : BalanceSide) (amount : ℕ) (b : Bool) → bytes_eq to name ≡ b → amount ≤ on_side side (owed to)
    → (if b then less side amount (owed name) else owed name).claims + (if b then amount_if Claims side amount else 0) ≡ (owed name).claims
paid_claims owed to name side amount false same fits = omega arith
paid_claims owed to name Claims amount true same fits = let e = ap (λ n. (owed n).claims) ((bytes_eq-Decides to name).0 same) in omega (arith, fits, e)
paid_claims owed to name Dues amount true same fits = omega arith

paid_dues : (owed : Owed) (to name : List ℕ) (side : BalanceSide) (amount : ℕ) (b : Bool) → bytes_eq to name ≡ b → amount ≤ on_side side (owed to)
    → (if b then less side amount (owed name) else owed name).dues + (if b then amount_if Dues side amount else 0) ≡ (owed name).dues
paid_dues owed to name side amount false same fits = omega arith
paid_dues owed to name Claims amount true same fits = omega arith
paid_dues owed to name Dues amount true same fits = let e = ap (λ n. (owed n).dues) ((bytes_eq-Decides to name).0 same) in omega (arith, fits, e)

added_claims : (owed : Owed) (to name : List ℕ) (side : BalanceSide) (amount : ℕ) (b : Bool) → (if b then more side amount (owed name) else owed name).claims ≡ (owed name).claims + (if b then amount_if Claims side amount else 0)
added_claims owed to name side amount false = omega arith
added_claims owed to name Claims amount true = refl
added_claims owed to name Dues amount true = omega arith

added_dues : (owed : Owed) (to name : List ℕ) (side : BalanceSide) (amount : ℕ) (b : Bool) → (if b then more side amount (owed name) else owed name).dues ≡ (owed name).dues + (if b then amount_if Dues side amount else 0)
added_dues owed to name side amount false = omega arith
added_dues owed to name Claims amount true = omega arith
added_dues owed to name Dues amount true = refl

one_claims : (owed : Owed) (name : List ℕ) (c : Chapter) → Fits owed c → (after owed c name).claims + paid_in Claims name c ≡ (owed name).claims + earned_in held_for owed name c + adjusted_in Claims name c
one_claims owed name (Lives l) b =
    let g = runs (hop_of owed l) l.acts (begins owed l b) in
    let e = left_claims (hop_of owed l) (run (hop_of owed l) l.acts) (fulfilled (hop_of owed l) l.acts) (owed name) (line_of l.names name) g (at_line (λ n. (owed n).claims) l.names name) in
    omega (arith, e)
one_claims owed name (Pays to side amount) fits = let e = paid_claims owed to name side amount (bytes_eq to name) refl fits in omega (arith, e)
one_claims owed name (Adjusts to side amount) fits = let e = added_claims owed to name side amount (bytes_eq to name) in omega (arith, e)

one_dues : (owed : Owed) (name : List ℕ) (c : Chapter) → Fits owed c → (after owed c name).dues + paid_in Dues name c ≡ (owed name).dues + earned_in due_for owed name c + adjusted_in Dues name c
one_dues owed name (Lives l) b =
    let g = runs (hop_of owed l) l.acts (begins owed l b) in
    let e = left_dues (hop_of owed l) (run (hop_of owed l) l.acts) (fulfilled (hop_of owed l) l.acts) (owed name) (line_of l.names name) g (at_line (λ n. (owed n).dues) l.names name) in
    omega (arith, e)
one_dues owed name (Pays to side amount) fits = let e = paid_dues owed to name side amount (bytes_eq to name) refl fits in omega (arith, e)
one_dues owed name (Adjusts to side amount) fits = let e = added_dues owed to name side amount (bytes_eq to name) in omega (arith, e)

pub all_claims : (owed : Owed) (name : List ℕ) (cs : List Chapter) → AllFit owed cs → (history owed cs name).claims + paid Claims name cs ≡ (owed name).claims + earned held_for owed name cs + adjusted Claims name cs
all_claims owed name [] fits = omega arith
all_claims owed name (c ∷ cs) fits =
    let one = one_claims owed name c fits.0 in
    let rest = all_claims (after owed c) name cs fits.1 in
    omega (arith, one, rest)

pub all_dues : (owed : Owed) (name : List ℕ) (cs : List Chapter) → AllFit owed cs → (history owed cs name).dues + paid Dues name cs ≡ (owed name).dues + earned due_for owed name cs + adjusted Dues name cs
all_dues owed name [] fits = omega arith
all_dues owed name (c ∷ cs) fits =
    let one = one_dues owed name c fits.0 in
    let rest = all_dues (after owed c) name cs fits.1 in
    omega (arith, one, rest)

-- ---- the books

pub same_amounts : (a b : Amounts) → a.claims ≡ b.claims → a.dues ≡ b.dues → a ≡ b
same_amounts a b c d = ap (λ (x : ℕ). record { claims = x; dues = a.dues }) c ∙ ap (λ (x : ℕ). record { claims = b.claims; dues = x }) d

twice : (b : Bool) (a x y : Amounts) → (if b then a else y) ≡ (if b then a else (if b then x else y))
twice true a x y = refl
twice false a x y = refl

set_first : (n : List ℕ) (names : Names) (x : Amounts) (all : List Amounts) (to name : List ℕ) (a : Amounts) → n ≡ to
    → (if bytes_eq n name then a else amounts_of names all name) ≡ (if bytes_eq to name then a else (if bytes_eq n name then x else amounts_of names all name))
set_first n names x all to name a e =
    subst (λ t. (if bytes_eq n name then a else amounts_of names all name) ≡ (if bytes_eq t name then a else (if bytes_eq n name then x else amounts_of names all name))) e
    (twice (bytes_eq n name) a x (amounts_of names all name))

set_later : (n : List ℕ) (x rest old : Amounts) (to name : List ℕ) (a : Amounts) (b : Bool) → bytes_eq n name ≡ b → n ≢ to → rest ≡ (if bytes_eq to name then a else old)
    → (if b then x else rest) ≡ (if bytes_eq to name then a else (if b then x else old))
set_later n x rest old to name a true same apart e = sym (ap (λ (c : Bool). if c then a else x) (unlike to name (λ is. apart ((bytes_eq-Decides n name).0 same ∙ sym is))))
set_later n x rest old to name a false same apart e = e

-- names that are there once: what is set at the place of one is what this one has, and no other
pub set_named : (names : Names) (all : List Amounts) (at : ℕ) (to name : List ℕ) (a : Amounts) → AreDistinct names → length names ≡ length all → slice_get names at ≡ Some to
    → amounts_of names (set all at a) name ≡ (if bytes_eq to name then a else amounts_of names all name)
unfolding amounts_of
set_named [] all at to name a apart same here = absurd (none-some to here)
set_named (n ∷ names) [] at to name a apart same here = absurd (omega (arith, same))
set_named (n ∷ names) (x ∷ all) zero to name a apart same here = set_first n names x all to name a (same_Some n to here)
set_named (n ∷ names) (x ∷ all) (suc at) to name a apart same here =
    set_later n x (amounts_of names (set all at a) name) (amounts_of names all name) to name a (bytes_eq n name) refl (λ e. all_at (λ other. other ≢ n) names at to apart.0 here (sym e))
    (set_named names all at to name a apart.1 (omega (arith, same)) here)

paid_one : (b : Bool) (a c d : Amounts) → (b ≡ true → a ≡ c) → (if b then a else d) ≡ (if b then c else d)
paid_one true a c d same = same refl
paid_one false a c d same = refl

-- an entry in the books is one by name
pub entered_named : (names : Names) (all : List Amounts) (kind : Kind) (at : ℕ) (to name : List ℕ) (side : BalanceSide) (amount moment : ℕ) → AreDistinct names → length names ≡ length all → slice_get names at ≡ Some to
    → amounts_of names (paid_off all (paying kind at side amount moment)) name ≡ after_entry kind (amounts_of names all) to side amount name
entered_named names all kind at to name side amount moment apart same here =
    set_named names all at to name (changed kind side amount (amounts_at all at)) apart same here
    ∙ paid_one (bytes_eq to name) (changed kind side amount (amounts_at all at)) (changed kind side amount (amounts_of names all name)) (amounts_of names all name)
    (λ is. ap (changed kind side amount) (sym (found names all at to nothing apart same here) ∙ ap (amounts_of names all) ((bytes_eq-Decides to name).0 is)))
