-- What a handle owns: nothing at null, or the block of its state.
use Rattle.std.specs.Prelude.{Option, Some, None}
use base.Fml.{Fml, feq}
use denote.RawPtr.{Ptr, null_ptr}
use Rattle.std.specs.declared.alloc.Global.{Global}
use Rattle.std.specs.contracts.impls.GlobalAllocator.TheImpl.{ghosts}
use Rattle.std_alloc.specs.Box.Ownership.{box_owns}
use Rattle.host_objects.specs.contracts.object.Object.{the_row}

abbrev pub owned : Global → Ptr → Option (the_row).Denot → Fml
owned a at None = feq Ptr at null_ptr
owned a at (Some s) = box_owns (ghosts.dealloc_token a) the_row at s
