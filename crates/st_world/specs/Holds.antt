-- What every reachable world keeps.
use Rattle.std.specs.Prelude.{◌≡◌, ℕ, ◌+◌, ◌<◌, ◌≤◌, Bool, true, false, not, ◌&&◌, ◌||◌, List, length, slice_get, slice_index, nat_eq, is_some, if◌then◌else◌}
use Rattle.std.specs.List.{sum_by}
use Rattle.std.specs.declared.option.Option.{Option}
use Rattle.std.specs.declared.option.Option.TheVariants.{None, Some}
use Rattle.st_receiver.specs.Streams.{all_credited}
use Rattle.st_end.specs.Receiving.{prepare_in}
use Rattle.st_world_parts.specs.Sides.{Side, at, IsPrefixOf}
use Rattle.st_world_parts.specs.State.{World, AnsweredAtEnd, AnsweredAtHop, Node, Party, SentPrepare, SentAnswer, Place, AtEnd, AtHop, direction_at, end_at, log_at, nth, far, near, account_from, account_to}
use Rattle.st_ilp.specs.Reading.{is_fulfill_text}
use Rattle.st_world_parts.specs.StreamLogs.{StreamLog}

-- what was read of a stream is a prefix of what was written
abbrev pub ReadsPrefix : World → Type 0
ReadsPrefix w = (side : Side) (k : ℕ) → IsPrefixOf (log_at w side k).read (log_at w side k).written

-- if a read returned `End`, a clean close was accepted and all was read
abbrev pub EndsWhole : World → Type 0
EndsWhole w = (side : Side) (k : ℕ) → (log_at w side k).saw_end ≡ true → ((log_at w side k).clean ≡ true) × ((log_at w side k).read ≡ (log_at w side k).written)

-- once a read returned `End` or an abort no more is read: a fact of two worlds of one run
abbrev pub StaysRead : StreamLog → StreamLog → Type 0
StaysRead old new = (old.saw_end || old.saw_abort) ≡ true → new.read ≡ old.read

-- an end's credit is the sum of what it fulfilled, no sequence twice, and its streams' credits add up to it
abbrev pub fulfilled_amount : AnsweredAtEnd → ℕ
fulfilled_amount x = if x.fulfilled then x.amount else 0

abbrev pub is_number : ℕ → Option ℕ → Bool
is_number n None = false
is_number n (Some m) = nat_eq m n

abbrev pub is_fulfilled_as : ℕ → AnsweredAtEnd → Bool
is_fulfilled_as n x = is_number n x.sequence && x.fulfilled

-- how many fulfilled Prepares had this sequence
abbrev pub count_of : ℕ → List AnsweredAtEnd → ℕ
count_of n answered = sum_by (λ x. if is_fulfilled_as n x then 1 else 0) answered

abbrev pub AllNumbered : List AnsweredAtEnd → Type 0
AllNumbered answered = (i : ℕ) (x : AnsweredAtEnd) → slice_get answered i ≡ Some x → x.fulfilled ≡ true → is_some x.sequence ≡ true

pub record IsCredited (p : Party) : Type 0 where
  pub credit : p.state.receiving.credit ≡ sum_by fulfilled_amount p.answered
  pub known : AllNumbered p.answered  -- what was fulfilled had a sequence
  pub once : (n : ℕ) → count_of n p.answered ≤ 1
  pub streams : all_credited p.state.receiving ≡ p.state.receiving.credit

-- a hop's claims and dues are the sums over the Prepares that were fulfilled
abbrev pub claim_of : ℕ → AnsweredAtHop → ℕ
claim_of a x = if x.fulfilled && nat_eq x.incoming a then x.amount_in else 0

abbrev pub is_to : ℕ → Option ℕ → Bool
is_to a None = false
is_to a (Some b) = nat_eq b a

abbrev pub due_of : ℕ → AnsweredAtHop → ℕ
due_of a x = if x.fulfilled && is_to a x.outgoing then x.amount_out else 0

pub record IsBalanced (n : Node) : Type 0 where
  pub claims : (a : ℕ) → slice_index n.state.claims a ≡ sum_by (claim_of a) n.answered
  pub dues : (a : ℕ) → slice_index n.state.dues a ≡ sum_by (due_of a) n.answered

-- link agreement: the claimer's claims less the payer's dues are the Fulfills that were given and not booked
abbrev pub amount_of : Option SentPrepare → ℕ
amount_of None = 0
amount_of (Some p) = (prepare_in p.bytes).amount

abbrev pub open_amount : List SentPrepare → SentAnswer → ℕ
open_amount prepares g = if is_fulfill_text g.bytes && not g.taken then amount_of (nth prepares g.which) else 0

abbrev pub node_claims : ℕ → Option Node → ℕ
node_claims a None = 0
node_claims a (Some n) = slice_index n.state.claims a

abbrev pub node_dues : ℕ → Option Node → ℕ
node_dues a None = 0
node_dues a (Some n) = slice_index n.state.dues a

-- an end's claim is its credit, its due is what it paid
abbrev pub claims_at : World → Side → Place → ℕ
claims_at w way (AtEnd side) = (end_at w side).receiving.credit
claims_at w way (AtHop i) = node_claims (account_from way) (slice_get w.nodes i)

abbrev pub dues_at : World → Side → Place → ℕ
dues_at w way (AtEnd side) = (end_at w side).sending.paid
dues_at w way (AtHop i) = node_dues (account_to way) (slice_get w.nodes i)

abbrev pub LinksAgree : World → Type 0
LinksAgree w = (link : ℕ) (way : Side) → link < length w.nodes + 1
    → claims_at w way (far w link way)
    ≡ dues_at w way (near w link way) + sum_by (open_amount (direction_at w link way).prepares) (direction_at w link way).given

pub record Holds (w : World) : Type 0 where
  pub bytes_in_order : ReadsPrefix w
  pub ends_are_complete : EndsWhole w
  pub credits_add_up : (side : Side) → IsCredited (at w.ends side)
  pub balances_add_up : (i : ℕ) (n : Node) → slice_get w.nodes i ≡ Some n → IsBalanced n
  pub neighbours_agree : LinksAgree w
