-- A fresh ring of the hub's number is the hub's ring.
use Rattle.std.proofs.Common.{◌≡◌, ℕ, ◌<◌, sym, subst, arith}
use Rattle.st_queues.specs.Names.{RingId}
use Rattle.st_queues.specs.Held.{HeldWrite, HeldRead}
use Rattle.st_queues.specs.Lanes.{Fresh, FreshRead, IsOurs, IsOurRead, write_lane_ring, read_lane_ring}
use Rattle.st_queues.specs.declared.lanes.WriteRing.{WriteRing}
use Rattle.st_queues.specs.declared.lanes.ReadRing.{ReadRing}

module _ {A : Type 0} where
  pub ours : (ring : ℕ → RingId A) (k : ℕ) (x : WriteRing A) → Fresh k x → write_lane_ring x ≡ ring k → k < 512 → IsOurs ring x
  ours ring k x fresh named below =
      let at = fresh.0 in
      let same : write_lane_ring x ≡ ring x.end.ring = subst (λ n. write_lane_ring x ≡ ring n) (sym at) named in
      (omega arith, same, subst (λ z. HeldWrite z x.held) same fresh.4)

  pub our_read : (ring : ℕ → RingId A) (k : ℕ) (x : ReadRing A) → FreshRead k x → read_lane_ring x ≡ ring k → k < 64 → IsOurRead ring x
  our_read ring k x fresh named below =
      let at = fresh.0 in
      let same : read_lane_ring x ≡ ring x.end.stream = subst (λ n. read_lane_ring x ≡ ring n) (sym at) named in
      (omega arith, same, subst (λ z. HeldRead z x.held) same fresh.4)
