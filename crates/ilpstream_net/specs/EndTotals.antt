-- The totals of an end that a command writes to a file, and how it ends then.
use Rattle.std.specs.Prelude.{◌≡◌, ℕ, List, [], ◌∷◌, ◌++◌, codes, decimal, Option, Some, None, Result, Ok, OnOk}
use Rattle.std.specs.Io.KnownBytes.{Appends}
use Rattle.st_devices.specs.Tallies.{device_of}
use Rattle.st_devices.specs.declared.counted.Counting.{Counting}
use Rattle.st_streams.specs.declared.totals.EndTotals.{EndTotals}
use Rattle.ilpstream_output.specs.declared.error.Fault.{Fault}
use Rattle.ilpstream_net.specs.declared.error.RunError.{RunError}
use Rattle.ilpstream_net.specs.Totals.{ended_with}

-- a line of its own for each of an end's totals: `accepted 70000` and a newline, and so on
abbrev pub totals_text : EndTotals → List ℕ
totals_text t = codes "accepted " ++ decimal t.accepted ++ codes "\ndelivered " ++ decimal t.delivered
    ++ codes "\ncredited " ++ decimal t.credited ++ codes "\npaid " ++ decimal t.paid ++ 10 ∷ []

-- the totals were written to a file, if there is one: old before and new after
abbrev pub IsToldIn : {W : Type 0} → (W → Option (List ℕ)) → (old new : Option (Counting W)) → EndTotals → Result (Unit {0}) Fault → Type 0
IsToldIn contents None new totals told = told ≡ Ok tt
IsToldIn contents (Some f) None totals told = ⊥
IsToldIn contents (Some f) (Some g) totals told = OnOk told (Appends (contents (device_of f)) (contents (device_of g)) (totals_text totals))

-- a command ended, wrote its totals to its file, and then its end to its log
abbrev pub EndsTold : {W : Type 0} → (W → Option (List ℕ)) → (old new : Option (Counting W)) → EndTotals → (ended result : Result (Unit {0}) RunError) → Type 0
EndsTold contents old new totals ended result =
    (told : Result (Unit {0}) Fault) × (logged : Result (Unit {0}) Fault)
    × IsToldIn contents old new totals told × (result ≡ ended_with (ended_with ended told) logged)
