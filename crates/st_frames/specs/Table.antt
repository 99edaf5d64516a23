-- The known frame types with their fields (RFC 0029, section 5.3), from bytes and to bytes.
use Rattle.std.specs.Prelude.{ℕ, zero, suc, List, [], ◌∷◌, Option, Some, None, Bool, ◌==◌, ◌||◌, if◌then◌else◌, length}
use Rattle.st_oer.specs.Address.{is_address}
use Rattle.st_frames.specs.Frames.{Known, CloseFrame, ConnectionClose, OtherFrame, ConnectionNewAddress, LimitFrame, ConnectionMaxData, BlockedFrame, ConnectionDataBlocked, StreamClose, StreamMoney, StreamMaxMoney, StreamMoneyBlocked, StreamData, StreamMaxData, StreamDataBlocked}

-- how a field is spelled (RFC 0030): UInt8, VarUInt, a VarUInt of any length, octets, UTF-8, an address or nothing
pub data Field : Type 0 where
  Byte : Field
  Number : Field
  Limit : Field
  Octets : Field
  Text : Field
  Address : Field

-- what a field holds
pub data Item : Type 0 where
  Code : (n : ℕ) → Item
  Num : (n : ℕ) → Item
  Bytes : (bytes : List ℕ) → Item

-- the text of an address field is an address, or it is empty
abbrev pub is_address_text : List ℕ → Bool
is_address_text bytes = (length bytes == 0) || is_address bytes

-- the i-th item of a list that has one
abbrev pub nth : ℕ → List Item → Item
nth i [] = Num 0
nth zero (x ∷ xs) = x
nth (suc i) (x ∷ xs) = nth i xs

-- an item as a number
abbrev pub value : Item → ℕ
value (Code n) = n
value (Num n) = n
value (Bytes bytes) = 0

-- an item as bytes
abbrev pub text_of : Item → List ℕ
text_of (Code n) = []
text_of (Num n) = []
text_of (Bytes bytes) = bytes

-- the i-th field as a number
abbrev pub num : ℕ → List Item → ℕ
num i xs = value (nth i xs)

-- the i-th field as bytes
abbrev pub str : ℕ → List Item → List ℕ
str i xs = text_of (nth i xs)

-- the fields of a frame type in their order, and the frame that they make
pub record Row : Type 0 where
  pub fields : List Field
  pub make : List Item → Known

-- the row of a type number, or None for a type that is not known
unfoldable pub row_of : ℕ → Option Row
row_of type =
    if type == 0x01 then Some (record { fields = Byte ∷ Text ∷ []; make = λ xs. CloseFrame (ConnectionClose (num 0 xs) (str 1 xs)) })
    else (if type == 0x02 then Some (record { fields = Address ∷ []; make = λ xs. OtherFrame (ConnectionNewAddress (str 0 xs)) })
    else (if type == 0x03 then Some (record { fields = Limit ∷ []; make = λ xs. LimitFrame (ConnectionMaxData (num 0 xs)) })
    else (if type == 0x04 then Some (record { fields = Limit ∷ []; make = λ xs. BlockedFrame (ConnectionDataBlocked (num 0 xs)) })
    else (if type == 0x10 then Some (record { fields = Number ∷ Byte ∷ Text ∷ []; make = λ xs. CloseFrame (StreamClose (num 0 xs) (num 1 xs) (str 2 xs)) })
    else (if type == 0x11 then Some (record { fields = Number ∷ Number ∷ []; make = λ xs. StreamMoney (num 0 xs) (num 1 xs) })
    else (if type == 0x12 then Some (record { fields = Number ∷ Limit ∷ Limit ∷ []; make = λ xs. LimitFrame (StreamMaxMoney (num 0 xs) (num 1 xs) (num 2 xs)) })
    else (if type == 0x13 then Some (record { fields = Number ∷ Limit ∷ Limit ∷ []; make = λ xs. BlockedFrame (StreamMoneyBlocked (num 0 xs) (num 1 xs) (num 2 xs)) })
    else (if type == 0x14 then Some (record { fields = Number ∷ Number ∷ Octets ∷ []; make = λ xs. StreamData (num 0 xs) (num 1 xs) (str 2 xs) })
    else (if type == 0x15 then Some (record { fields = Number ∷ Limit ∷ []; make = λ xs. LimitFrame (StreamMaxData (num 0 xs) (num 1 xs)) })
    else (if type == 0x16 then Some (record { fields = Number ∷ Limit ∷ []; make = λ xs. BlockedFrame (StreamDataBlocked (num 0 xs) (num 1 xs)) })
    else None))))))))))

-- the type number of a frame, and what its fields hold in their order
abbrev pub layout : Known → ℕ × List Item
layout (CloseFrame (ConnectionClose code message)) = (0x01, Code code ∷ Bytes message ∷ [])
layout (OtherFrame (ConnectionNewAddress address)) = (0x02, Bytes address ∷ [])
layout (LimitFrame (ConnectionMaxData max_offset)) = (0x03, Num max_offset ∷ [])
layout (BlockedFrame (ConnectionDataBlocked max_offset)) = (0x04, Num max_offset ∷ [])
layout (CloseFrame (StreamClose stream code message)) = (0x10, Num stream ∷ Code code ∷ Bytes message ∷ [])
layout (StreamMoney stream shares) = (0x11, Num stream ∷ Num shares ∷ [])
layout (LimitFrame (StreamMaxMoney stream receive_max total_received)) = (0x12, Num stream ∷ Num receive_max ∷ Num total_received ∷ [])
layout (BlockedFrame (StreamMoneyBlocked stream send_max total_sent)) = (0x13, Num stream ∷ Num send_max ∷ Num total_sent ∷ [])
layout (StreamData stream offset bytes) = (0x14, Num stream ∷ Num offset ∷ Bytes bytes ∷ [])
layout (LimitFrame (StreamMaxData stream max_offset)) = (0x15, Num stream ∷ Num max_offset ∷ [])
layout (BlockedFrame (StreamDataBlocked stream max_offset)) = (0x16, Num stream ∷ Num max_offset ∷ [])
