-- A handle may cross threads, since the object that it owns may.
use mir.Raw.{raw}
use base.Shift.{Keyless}
use denote.Memory.{lone}
use denote.RawPtr.{Ptr}
use denote.Struct.Struct.{exits_of}
use denote.Struct.Owning.{shape, fields, to}
use denote.Param.Send.{IsSend, AllSend, owning_send, struct_send, sendable}
use Rattle.std.specs.Prelude.{Option, Some, None}
use Rattle.std.specs.declared.alloc.Global.{Global}
use Rattle.std.proofs.Crossing as heap
use Rattle.std_alloc.proofs.SendSync.{quiet, lies}
use Rattle.std.proofs.alloc.Global.TheSendSync as allocator
use Rattle.host_objects.specs.Owning.{owned}
use Rattle.host_objects.specs.contracts.object.Object as object
use Rattle.host_objects.proofs.object.Object.TheSendSync.{the_send as object_send}
use Rattle.host_objects.specs.contracts.handle.Handle.{the_row, the_type}

owned_keyless : (a : Global) (p : Ptr) (s : Option (object.the_row).Denot) → Keyless (owned a p s)
owned_keyless a p None = tt
owned_keyless a p (Some x) = (lies object.the_row object_send p x, heap.frees.frees a (raw (lone object.the_row.mir)) p)

pub send : IsSend the_row
send =
    let all : AllSend (fields the_type) = (search sendable, (allocator.the_field_send, tt)) in
    owning_send the_type all (λ d. owned_keyless d.alloc d.at d.state)
    (λ k. quiet (to the_type) (exits_of k (fields the_type)) ((struct_send (shape the_type) all).leaving k))
