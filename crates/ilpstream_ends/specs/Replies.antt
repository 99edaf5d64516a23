-- Requests that the threads of a receiver opened, and the answers of its end.
use Rattle.std.specs.Prelude.{◌≡◌, ℕ, List, [], Option, None, Some, ⊤}
use Rattle.st_oer.specs.Ratios.{ratio}
use Rattle.st_keys.specs.Keys.{DerivedKeys}
use Rattle.st_http.specs.Message.{Standing}
use Rattle.st_http.specs.Progress.{body_of}
use Rattle.st_end.specs.State.{EndState, new_end}
use Rattle.st_end.specs.Opened.{IsOpenedBy}
use Rattle.st_end.specs.declared.opened.Opened.{Opened}
use Rattle.st_end.specs.declared.role.Role.TheVariants.{Server}
use Rattle.ilpstream_ends.specs.Answering.{Answers}
use Rattle.ilpstream_ends.specs.Keeping.{Runs}

-- the bytes that were opened, if there was memory
abbrev pub bytes_opened : {X : Type 0} → Option (Opened X) → Option (List ℕ)
bytes_opened None = None
bytes_opened (Some opened) = Some opened.bytes.items

-- they were opened by these keys
abbrev pub IsOpenedFor : {X : Type 0} → DerivedKeys → Option (Opened X) → Type 0
IsOpenedFor keys None = ⊤
IsOpenedFor keys (Some opened) = IsOpenedBy keys opened.bytes.items opened

-- the answer to bytes for which there was memory; without them it is one to any bytes
abbrev pub AnswersFor : EndState → (bytes answer : Option (List ℕ)) → EndState → Type 0
AnswersFor a None answer b = (bytes : List ℕ) → Answers a bytes answer b
AnswersFor a (Some bytes) answer b = Answers a bytes answer b

-- an end gave this answer to the body of a request
abbrev pub AnswersBody : EndState → Standing → (answer : Option (List ℕ)) → EndState → Type 0
AnswersBody a standing answer b = (body : List ℕ) × (body_of standing ≡ Some body) × Answers a body answer b

-- the end that began as `start` is this one after a run
abbrev pub IsLater : (start now : EndState) → Type 0
IsLater start now = (out : List ℕ) × Runs start out now

-- an end for the name that no receiver has
abbrev pub no_end : EndState
no_end = new_end Server (record { encryption_key = []; fulfillment_key = [] }) [] [] (record { in_flight = 0; packets = 0; packet_limit = 0; least = ratio 0 0 })
