-- From the result of a transfer, and that of writing its totals, to the end of its command.
use Rattle.std.proofs.Common.{◌≡◌, ℕ, Bool, true, false, List, Option, Some, None, refl, subst, inl, inr}
use Rattle.std.specs.Prelude.{Result, Ok, Err, IsNone}
use Rattle.std.specs.Borrow.{Bor}
use Rattle.st_devices.specs.declared.counted.Counting.{Counting}
use Rattle.st_end.specs.Calls.{set_receive_max}
use Rattle.st_end.specs.State.{EndState}
use Rattle.st_end.specs.Totals.{Totals}
use Rattle.ilpstream_ends.specs.Keeping.{TellsTotals, file_stream}
use Rattle.ilpstream_ends.specs.Outcomes.{ComesTo, no_totals}
use Rattle.ilpstream_serving.specs.declared.error.TransferError.{TransferError}
use Rattle.ilpstream_output.specs.declared.error.Fault.{Fault}
use Rattle.ilpstream_settings.specs.declared.settings.ReceiveSettings.{ReceiveSettings}
use Rattle.ilpstream_settings.specs.declared.settings.SendSettings.{SendSettings}
use Rattle.ilpstream_settings.specs.declared.source.Secret.{Secret}
use Rattle.ilpstream_settings.specs.declared.source.Token.{Token}
use Rattle.ilpstream_net.specs.Credentials.{AreOf, HasSecret, WhyNotOpened}
use Rattle.ilpstream_net.specs.declared.credentials.Credentials.{Credentials}
use Rattle.ilpstream_net.specs.EndTotals.{EndsTold, IsToldIn}
use Rattle.ilpstream_main.specs.Transfers.{EndsAsked, EndsReceive, EndsSend, IsPatient, ReceivesBy, ReceivesNothing, SendsBy, SendsNothing, TransfersIn, TransfersOut, receiver_end, receiver_result, sender_end, sender_result}
use Rattle.ilpstream_net.specs.declared.error.RunError.{RunError}

module _ (s : SendSettings) (secret : List ℕ) where
  pub unsent : (now : Totals) (ended : Result (Unit {0}) RunError) → SendsNothing ended → TransfersOut s secret now now ended
  unsent now ended nothing = inl (nothing, refl)

  pub sent : (before now : Totals) (e : EndState) (money : ℕ) (got : Result ℕ TransferError) (ended : Result (Unit {0}) RunError)
      → e ≡ sender_end s secret → money ≡ s.money → ComesTo e money got now → ended ≡ sender_result got → TransfersOut s secret before now ended
  sent before now e money got ended is amount comes so =
      inr (got, subst (λ (m : ℕ). ComesTo (sender_end s secret) m got now) amount (subst (λ (x : EndState). ComesTo x money got now) is comes), so)

module _ (s : ReceiveSettings) (secret : List ℕ) where
  pub unreceived : (bytes : Option (List ℕ)) (now : Totals) (ended : Result (Unit {0}) RunError) → ReceivesNothing ended → TransfersIn s secret bytes bytes now now ended
  unreceived bytes now ended nothing = inl (nothing, refl, refl)

  pub received : (before after : Option (List ℕ)) (old now : Totals) (e : EndState) (most : ℕ) (patience : Option ℕ) (got : Result ℕ TransferError) (stopped : Bool) (ended : Result (Unit {0}) RunError)
      → e ≡ receiver_end s secret → most ≡ s.receive_max → patience ≡ s.patience → TellsTotals (set_receive_max e file_stream most) before after now got → IsPatient patience got
      → ended ≡ receiver_result got stopped → TransfersIn s secret before after old now ended
  received before after old now e most patience got stopped ended is amount time tells patient so =
      let by_end = subst (λ (x : EndState). TellsTotals (set_receive_max x file_stream most) before after now got) is tells in
      inr (got, stopped, subst (λ (m : ℕ). TellsTotals (set_receive_max (receiver_end s secret) file_stream m) before after now got) amount by_end, subst (λ (p : Option ℕ). IsPatient p got) time patient, so)

-- without a file for the totals, writing them succeeds
untold_in : {W : Type 0} (contents : W → Option (List ℕ)) (old new : Option (Counting W)) (totals : Totals) (told : Result (Unit {0}) Fault) → IsNone old → IsToldIn contents old new totals told → told ≡ Ok tt
untold_in contents None new totals told none is = is
untold_in contents (Some f) new totals told none is = absurd (let clash : ◌≡◌ {A = Bool} true false = none in cc)

-- a command that wrote its totals to the file that was asked for, ends as the settings ask
pub asked : {W : Type 0} (contents : W → Option (List ℕ)) (file : Option (Bor (List ℕ))) (old new : Option (Counting W)) (totals : Totals) (ended result : Result (Unit {0}) RunError)
    → (IsNone file → IsNone old) → EndsTold contents old new totals ended result → EndsAsked file ended result
asked contents file old new totals ended result none (told, logged, is, so) = (told, logged, (λ missing. untold_in contents old new totals told (none missing) is), so)

-- what `send` and `receive` did once they began
pub sends_by : {W : Type 0} (contents : W → Option (List ℕ)) (s : SendSettings) (secret : List ℕ) (before now : Totals) (ended : Result (Unit {0}) RunError) (old new : Option (Counting W)) (result : Result (Unit {0}) RunError)
    → before ≡ no_totals → TransfersOut s secret before now ended → EndsTold contents old new now ended result → SendsBy contents s secret old new result
sends_by contents s secret before now ended old new result none out told = (now, ended, subst (λ (t : Totals). TransfersOut s secret t now ended) none out, told)

pub receives_by : {W : Type 0} (contents : W → Option (List ℕ)) (s : ReceiveSettings) (secret : List ℕ) (first last : Option (List ℕ)) (before now : Totals) (ended : Result (Unit {0}) RunError) (old new : Option (Counting W)) (result : Result (Unit {0}) RunError)
    → before ≡ no_totals → TransfersIn s secret first last before now ended → EndsTold contents old new now ended result → ReceivesBy contents s secret first last old new result
receives_by contents s secret first last before now ended old new result none came told = (now, ended, subst (λ (t : Totals). TransfersIn s secret first last t now ended) none came, told)

-- they end so, with the secret and the file for totals that were asked for
pub ends_send : {W : Type 0} (contents : W → Option (List ℕ)) (s : SendSettings) (token : Token) (given : Secret) (file : Option (Bor (List ℕ))) (c : Credentials) (old new : Option (Counting W)) (result : Result (Unit {0}) RunError)
    → given ≡ s.secret → file ≡ s.totals → AreOf token given c → (IsNone file → IsNone old) → SendsBy contents s c.secret old new result → EndsSend s result
ends_send contents s token given file c old new result same named are none (now, ended, out, told) =
    let has : HasSecret s.secret c.secret = subst (λ (x : Secret). HasSecret x c.secret) same are.secret in
    inr (c.secret, has, now, ended, out, subst (λ (f : Option (Bor (List ℕ))). EndsAsked f ended result) named (asked contents file old new now ended result none told))

pub ends_receive : {W : Type 0} (contents : W → Option (List ℕ)) (s : ReceiveSettings) (first last : Option (List ℕ)) (token : Token) (given : Secret) (file : Option (Bor (List ℕ))) (c : Credentials) (old new : Option (Counting W)) (result : Result (Unit {0}) RunError)
    → given ≡ s.secret → file ≡ s.totals → AreOf token given c → (IsNone file → IsNone old) → ReceivesBy contents s c.secret first last old new result → EndsReceive s first last result
ends_receive contents s first last token given file c old new result same named are none (now, ended, came, told) =
    let has : HasSecret s.secret c.secret = subst (λ (x : Secret). HasSecret x c.secret) same are.secret in
    inr (c.secret, has, now, ended, came, subst (λ (f : Option (Bor (List ℕ))). EndsAsked f ended result) named (asked contents file old new now ended result none told))

-- and those that did not begin
pub begins_no_send : (s : SendSettings) (e : RunError) → WhyNotOpened e → EndsSend s (Err e)
begins_no_send s e why = inl (e, why, refl)

pub begins_no_receive : (s : ReceiveSettings) (bytes : Option (List ℕ)) (e : RunError) → WhyNotOpened e → EndsReceive s bytes bytes (Err e)
begins_no_receive s bytes e why = inl ((e, why, refl), refl)
