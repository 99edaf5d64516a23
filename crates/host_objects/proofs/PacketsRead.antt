-- A packet whose frames are kept one by one.
use Rattle.std.proofs.Common.{◌≡◌, ◌++◌, ℕ, List, [], Ok, sym, ap, ◌∙◌}
use Rattle.st_oer.specs.Laws.{IsBytes}
use Rattle.st_frames.specs.Frames.{Known, Packet}
use Rattle.st_frames.specs.Kinds.{kind_number}
use Rattle.st_frames.specs.Reading.{packet_at}
use Rattle.st_frames.specs.Laws.{PacketReads}
use Rattle.host_objects.specs.declared.packet.HostPacket.{HostPacket}
use Rattle.host_objects.specs.Packets.{placed, packet_seen, AreKept, IsNewPacket, IsReadPacket}

-- if there were no frames before, those that are added are all of them
pub all_kept : (kind sequence amount : ℕ) (frames : List (ℕ × Known)) (new after : HostPacket) → IsNewPacket kind sequence amount new → AreKept new after frames
    → packet_seen after ≡ record { kind = kind; sequence = sequence; amount = amount; frames = frames }
all_kept kind sequence amount frames new after is kept =
    let same : packet_seen new ≡ record { kind = kind; sequence = sequence; amount = amount; frames = [] } = is.packet_is in
    let k : kind_number after.kind ≡ kind = ap kind_number kept.kind_is ∙ ap (λ (p : Packet). p.kind) same in
    let s : after.sequence ≡ sequence = kept.sequence_is ∙ ap (λ (p : Packet). p.sequence) same in
    let a : after.amount ≡ amount = kept.amount_is ∙ ap (λ (p : Packet). p.amount) same in
    let f : (packet_seen after).frames ≡ frames = kept.frames_are ∙ ap (λ (p : Packet). p.frames ++ frames) same in
    λ i. record { kind = k i; sequence = s i; amount = a i; frames = f i }

pub read_back : (kind : ℕ) (bytes : List ℕ) (p : Packet) (new after : HostPacket) → PacketReads → IsBytes bytes → packet_at kind bytes ≡ Ok p
    → IsNewPacket kind p.sequence p.amount new → AreKept new after p.frames → IsReadPacket kind bytes after
read_back kind bytes p new after reads fits read is kept =
    let k : kind ≡ p.kind = sym (reads.found kind bytes p fits read).1 in record {
      read_is = read ∙ ap Ok (sym (all_kept kind p.sequence p.amount p.frames new after is kept ∙ (λ i. record { kind = k i; sequence = p.sequence; amount = p.amount; frames = p.frames })));
      output_is = ap (λ v. v.items) kept.output_is ∙ is.output_is;
    }
