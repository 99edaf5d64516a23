-- What prevented a command from beginning its work, as a text.
use Rattle.std.specs.Prelude.{ℕ, List, ◌++◌, codes}
use Rattle.ilpstream_net.specs.declared.obstacle.Step.{Step}
use Rattle.ilpstream_net.specs.declared.obstacle.Step.TheVariants as step
use Rattle.ilpstream_net.specs.declared.obstacle.Cause.{Cause}
use Rattle.ilpstream_net.specs.declared.obstacle.Cause.TheVariants as cause

-- what could not be done
abbrev pub front : Step → List ℕ
front step.Listen = codes "cannot listen on "
front step.Log = codes "cannot open --log "
front step.Totals = codes "cannot open --totals "
front step.Beside = codes "cannot make a file next to --totals "
front step.Random = codes "cannot open --random "
front step.TokenFile = codes "cannot read --token-file "
front step.SecretFile = codes "cannot read --secret-file "
front step.Control = codes "cannot open --control "
front step.Table = codes "cannot read --table "

-- and why
abbrev pub back : Cause → List ℕ
back cause.NotFound = codes "not found"
back cause.Denied = codes "permission denied"
back cause.IsFolder = codes "is a directory"
back cause.InUse = codes "address in use"
back cause.NotHere = codes "no address of this host"
back cause.NoName = codes "unknown name"
back cause.ManyFiles = codes "too many open files"
back cause.Taken = codes "all names are in use"
back cause.BadLine = codes "bad first line"
back cause.NoPipe = codes "not a pipe"
back cause.Other = codes "failed"

-- `cannot listen on 127.0.0.1:17070: address in use`
abbrev pub words : Step → (name : List ℕ) → Cause → List ℕ
words s name c = front s ++ name ++ codes ": " ++ back c
