-- The one spelling in which a packet is written: its frames in order, all of them known, with nothing left and nothing after.
use Rattle.std.specs.Prelude.{◌≡◌, ◌<◌, ◌^◌, ◌+◌, ℕ, Bool, true, false, not, List, [], ◌∷◌, ◌++◌, length, Option, Some, None, Result, Ok, Err, nat_lt, if◌then◌else◌, ◌≤◌, MatchOption}
use Rattle.std.specs.List.{position}
use Rattle.st_oer.specs.Spelling.{octets, var_uint}
use Rattle.st_oer.specs.Text.{is_utf8}
use Rattle.st_frames.specs.declared.error.FrameError.{FrameError}
use Rattle.st_frames.specs.declared.error.FrameError.TheVariants.{FrameFormat, TooLong, NoMemory}
use Rattle.st_frames.specs.Frames.{Known, Packet, OtherFrame, ConnectionNewAddress, max_packet}
use Rattle.st_frames.specs.Table.{Field, Byte, Number, Limit, Octets, Text, Address, Item, Code, Num, Bytes, is_address_text, Row, row_of, layout}
use Rattle.st_oer.specs.Seen.{Writes}

-- the bytes of an item
abbrev pub item_text : Item → List ℕ
item_text (Code n) = n ∷ []
item_text (Num n) = var_uint n
item_text (Bytes bytes) = octets bytes

-- items one after another
abbrev pub items_text : List Item → List ℕ
items_text [] = []
items_text (x ∷ xs) = item_text x ++ items_text xs

-- the contents of a frame
unfoldable pub contents_text : Known → List ℕ
contents_text k = items_text (layout k).1

-- a frame: its type, and its contents as an octet string
unfoldable pub frame_text : Known → List ℕ
frame_text k = (layout k).0 ∷ octets (contents_text k)

-- frames one after another
abbrev pub frames_text : List Known → List ℕ
frames_text [] = []
frames_text (k ∷ ks) = frame_text k ++ frames_text ks

-- a packet: version, kind, sequence, amount, the number of frames, and the frames
unfoldable pub packet_text : (kind sequence amount : ℕ) → List Known → List ℕ
packet_text kind sequence amount ks = 1 ∷ kind ∷ (var_uint sequence ++ (var_uint amount ++ (var_uint (length ks) ++ frames_text ks)))

-- how many bytes that are: two bytes, three numbers, and the frames
abbrev pub packet_length : (sequence amount : ℕ) → List Known → ℕ
packet_length sequence amount ks = 2 + length (var_uint sequence) + length (var_uint amount) + length (var_uint (length ks)) + length (frames_text ks)

-- this length, if a packet may be so long
abbrev pub IsLengthWithin : ℕ → Option ℕ → Type 0
IsLengthWithin size found = MatchOption found (max_packet < size) (λ n. (n ≡ size) × (n ≤ max_packet))

-- a frame with an invalid address can't be written
abbrev pub is_unwritable : Known → Bool
is_unwritable (OtherFrame (ConnectionNewAddress address)) = not (is_address_text address)
is_unwritable k = false

-- a text, unless a frame can't be written, or the text is too long
abbrev pub judged : Option ℕ → List ℕ → Result (List ℕ) FrameError
judged (Some i) text = Err (FrameFormat i)
judged None text = if nat_lt max_packet (length text) then Err TooLong else Ok text

-- what writing gives: the index of the first frame that can't be written, else too many bytes, else the spelling
unfoldable pub written : (kind sequence amount : ℕ) → List Known → Result (List ℕ) FrameError
written kind sequence amount ks = judged (position is_unwritable ks) (packet_text kind sequence amount ks)

-- how many bytes that are
abbrev pub size_of : Result (List ℕ) FrameError → Result ℕ FrameError
size_of (Ok text) = Ok (length text)
size_of (Err e) = Err e

-- and how many bytes a packet takes
abbrev pub packet_size : (kind sequence amount : ℕ) → List Known → Result ℕ FrameError
packet_size kind sequence amount ks = size_of (written kind sequence amount ks)

-- a packet was written, or refused for its own cause, or memory was refused
abbrev pub WritesPacket : {X : Type 0} → (kind sequence amount : ℕ) → List Known → Result X FrameError → Type 0
WritesPacket kind sequence amount ks result = Writes NoMemory (λ _. packet_text kind sequence amount ks) result (written kind sequence amount ks)

-- every frame with its index
abbrev pub indexed : ℕ → List Known → List (ℕ × Known)
indexed i [] = []
indexed i (k ∷ ks) = (i, k) ∷ indexed (i + 1) ks

-- the packet that these frames make
abbrev pub packet_with : (kind sequence amount : ℕ) → List Known → Packet
packet_with kind sequence amount ks = record { kind = kind; sequence = sequence; amount = amount; frames = indexed 0 ks }

-- the item fits this field
abbrev pub ItemFits : Field → Item → Type 0
ItemFits Byte (Code n) = n < 256
ItemFits Number (Num n) = n < 2 ^ 64
ItemFits Limit (Num n) = n < 2 ^ 64
ItemFits Octets (Bytes bytes) = Unit {0}
ItemFits Text (Bytes bytes) = is_utf8 bytes ≡ true
ItemFits Address (Bytes bytes) = (is_utf8 bytes ≡ true) × (is_address_text bytes ≡ true)
ItemFits f x = ⊥

-- and so each of these
abbrev pub ItemsFit : List Field → List Item → Type 0
ItemsFit [] [] = Unit {0}
ItemsFit (f ∷ fs) (x ∷ xs) = ItemFits f x × ItemsFit fs xs
ItemsFit fs xs = ⊥

-- the fields of a row, none if there is no row
abbrev pub fields_of : Option Row → List Field
fields_of None = []
fields_of (Some row) = row.fields

-- each field of the frame holds what it can hold: a byte, a number below 2 ^ 64, UTF-8, an address or nothing
unfoldable pub KnownFits : Known → Type 0
KnownFits k = ItemsFit (fields_of (row_of (layout k).0)) (layout k).1

-- and so each of these frames
abbrev pub AllFit : List Known → Type 0
AllFit [] = Unit {0}
AllFit (k ∷ ks) = KnownFits k × AllFit ks
