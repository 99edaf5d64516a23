-- What the frames of a packet say of a stream (RFC 0029, section 5.3). The sender and the receiver both read it here.
use Rattle.std.specs.Prelude.{ℕ, Bool, false, List, map, nat_eq, if◌then◌else◌}
use Rattle.std.specs.List.{sum_by, range_with_len}
use Rattle.st_frames.specs.Frames.{Known, CloseFrame, StreamClose, StreamMoney, LimitFrame, StreamMaxMoney, BlockedFrame, StreamMoneyBlocked, StreamData, StreamMaxData, StreamDataBlocked}

-- the shares that a frame gives to a stream
abbrev pub money_of : ℕ → Known → ℕ
money_of k (StreamMoney stream shares) = if nat_eq stream k then shares else 0
money_of k f = 0

-- and to any stream
abbrev pub shares_of : Known → ℕ
shares_of (StreamMoney stream shares) = shares
shares_of f = 0

abbrev pub money_in : ℕ → List Known → ℕ
money_in k fs = sum_by (money_of k) fs

-- the shares of each stream, by its number
unfoldable pub shares : List Known → List ℕ
shares fs = map (λ k. money_in k fs) (range_with_len 0 65)

-- a frame of types 10 to 16 names its stream
abbrev pub names : ℕ → Known → Bool
names k (CloseFrame (StreamClose stream code message)) = nat_eq stream k
names k (StreamMoney stream shares) = nat_eq stream k
names k (LimitFrame (StreamMaxMoney stream receive_max total_received)) = nat_eq stream k
names k (BlockedFrame (StreamMoneyBlocked stream send_max total_sent)) = nat_eq stream k
names k (StreamData stream offset bytes) = nat_eq stream k
names k (LimitFrame (StreamMaxData stream max_offset)) = nat_eq stream k
names k (BlockedFrame (StreamDataBlocked stream max_offset)) = nat_eq stream k
names k f = false
