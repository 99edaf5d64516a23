-- What a call on a handle of a message answers and leaves, and the texts of HTTP.
use Rattle.std.specs.Prelude.{◌≡◌, ◌⊎◌, ◌&&◌, ℕ, Bool, true, false, nat_eq, nat_le, List, [], ◌∷◌, length, take, drop, Option, Some, None, MatchBool}
use Rattle.st_oer.specs.Text.{is_utf8}
use Rattle.st_http.specs.declared.error.HttpError.{HttpError}
use Rattle.st_http.specs.declared.error.HttpError.TheVariants.{ReadFault, WriteFault, BadHead, Status, TooLong, Cut, Turns, NoMemory}
use Rattle.st_http.specs.Errors.{number}
use Rattle.st_http.specs.Verdict.{request, response}
use Rattle.st_http.specs.Texts.{is_field_text, request_text, answer_text, refusal_text}
use Rattle.host_objects.specs.Codes.{done, idle, argument}
use Rattle.host_objects.specs.Messages.{IsNewMessage, Feeds, FailsToFeed}
use Rattle.host_objects.specs.Objects.{message_in}
use Rattle.host_objects.specs.declared.object.Object.{Object}
use Rattle.host_objects.specs.declared.object.Object.TheVariants.{Message}
use Rattle.host_objects.specs.declared.message.HostMessage.{HostMessage}
use Rattle.host_objects.specs.declared.message.Progress.TheVariants.{Whole, Part}
use Rattle.ilpstream_c.specs.declared.http.HostReading.{HostReading}
use Rattle.ilpstream_c.specs.Handles.{OnOne, Misused, Copies}

abbrev pub OnMessage : (old new : Option Object) → (code : ℕ) → (HostMessage → HostMessage → Type 0) → Type 0
OnMessage old new code P = OnOne (message_in old) (message_in new) (Misused old new code) P

-- ---- a new message

-- the tokens, which follow each other in the text
abbrev pub tokens_of : (text lengths : List ℕ) → List (List ℕ)
tokens_of text [] = []
tokens_of text (n ∷ ns) = take n text ∷ tokens_of (drop n text) ns

-- the text is the tokens, each of them UTF-8
abbrev pub are_tokens : (text lengths : List ℕ) → Bool
are_tokens text [] = nat_eq (length text) 0
are_tokens text (n ∷ ns) = nat_le n (length text) && (is_utf8 (take n text) && are_tokens (drop n text) ns)

-- a request to the accounts of these tokens is begun in an empty handle, unless memory is refused; with others none is
abbrev pub IsRequestMade : (text lengths : List ℕ) (old new : Option Object) (code : ℕ) → Type 0
IsRequestMade text lengths None new code =
    ((code ≡ done) × ((are_tokens text lengths ≡ true) × ((m : HostMessage) × ((new ≡ Some (Message m)) × IsNewMessage (request (tokens_of text lengths)) m))))
    ⊎ (((code ≡ number NoMemory) × (new ≡ None)) ⊎ ((code ≡ argument) × ((are_tokens text lengths ≡ false) × (new ≡ None))))
IsRequestMade text lengths (Some o) new code = Misused (Some o) new code

-- a response is begun in an empty handle, unless memory is refused
abbrev pub IsResponseMade : (old new : Option Object) (code : ℕ) → Type 0
IsResponseMade None new code =
    ((code ≡ done) × ((m : HostMessage) × ((new ≡ Some (Message m)) × IsNewMessage response m))) ⊎ ((code ≡ number NoMemory) × (new ≡ None))
IsResponseMade (Some o) new code = Misused (Some o) new code

-- ---- parts of a message

-- the status of a refusal, 0 if it has none
abbrev pub status_of : HttpError → ℕ
status_of ReadFault = 0
status_of (WriteFault sent) = 0
status_of BadHead = 0
status_of (Status status) = status
status_of TooLong = 0
status_of Cut = 0
status_of Turns = 0
status_of NoMemory = 0

-- a whole message, whose body is output; or a part, which wants more; or a refusal by its number
abbrev pub Takes : (old new : HostMessage) (piece : List ℕ) (code : ℕ) → HostReading → Type 0
Takes old new piece code r =
    ((code ≡ done) × (Feeds old new piece (Whole r.taken r.account) × ((r.body_len ≡ length new.output.items) × ((r.wants ≡ 0) × (r.status ≡ 0)))))
    ⊎ (((code ≡ idle) × (Feeds old new piece (Part r.wants) × ((r.taken ≡ 0) × ((r.account ≡ 0) × ((r.body_len ≡ 0) × (r.status ≡ 0))))))
    ⊎ ((e : HttpError) × ((code ≡ number e) × (FailsToFeed old new piece e × ((r.status ≡ status_of e) × ((r.wants ≡ 0) × ((r.taken ≡ 0) × ((r.account ≡ 0) × (r.body_len ≡ 0)))))))))

-- ---- texts

-- a text is written, unless memory is refused
abbrev pub WritesText : (text before after : List ℕ) (code len : ℕ) → Type 0
WritesText text before after code len = Copies text before after code len ⊎ ((code ≡ number NoMemory) × (after ≡ before))

abbrev pub IfText : Bool → (before after : List ℕ) (code : ℕ) → Type 0 → Type 0
IfText fits before after code P = MatchBool fits P ((code ≡ argument) × (after ≡ before))

-- a host or a token
abbrev pub is_field : List ℕ → Bool
is_field text = is_utf8 text && is_field_text text

-- a status of a refusal
abbrev pub is_refusal : ℕ → Bool
is_refusal status = nat_le 400 status && nat_le status 599
