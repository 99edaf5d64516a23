-- The table of faults and refusals: docs/errors.toml, as tools/errors.py writes it.
use Rattle.std.specs.Prelude.{ℕ, List, [], ◌∷◌, codes}
use Rattle.ilpstream_output.specs.Row.{Row}

-- the tens of the greatest number
abbrev pub last_ten : ℕ
last_ten = 12

unfoldable pub rows : List Row
rows =
    record {
      number = 1;
      home = codes "st_oer";
      variant = codes "OerError::Short";
      places = [];
      cause = codes "A field reaches past the end of the bytes." ∷ [];
      advice = codes "What to do: Read all bytes of the message before decoding. Bytes of a peer: reject them." ∷ [];
    } ∷
    record {
      number = 2;
      home = codes "st_oer";
      variant = codes "OerError::LongLength";
      places = [];
      cause = codes "A length is not written in the fewest bytes." ∷ [];
      advice = codes "What to do: Write the shortest form. Bytes of a peer: reject them." ∷ [];
    } ∷
    record {
      number = 3;
      home = codes "st_oer";
      variant = codes "OerError::LongNumber";
      places = [];
      cause = codes "A number has no bytes, or is not written in the fewest." ∷ [];
      advice = codes "What to do: Write the shortest form. Bytes of a peer: reject them." ∷ [];
    } ∷
    record {
      number = 4;
      home = codes "st_oer";
      variant = codes "OerError::TooBig";
      places = [];
      cause = codes "A length, or a number that is not a limit, has more than eight bytes." ∷ [];
      advice = codes "What to do: Write the shortest form. Bytes of a peer: reject them." ∷ [];
    } ∷
    record {
      number = 5;
      home = codes "st_oer";
      variant = codes "OerError::NoMemory";
      places = [];
      cause = codes "Out of memory for what was to be appended. The vector is unchanged." ∷ [];
      advice = codes "What to do: Free memory and repeat the call." ∷ [];
    } ∷
    record {
      number = 10;
      home = codes "st_ilp";
      variant = codes "IlpError::Oer";
      places = [];
      cause = codes "A field, or the packet around the fields, has a bad encoding." ∷ [];
      advice = codes "What to do: See the number in brackets." ∷ [];
    } ∷
    record {
      number = 11;
      home = codes "st_ilp";
      variant = codes "IlpError::Kind";
      places = [];
      cause = codes "The first byte is not that of the packet asked for: 12 Prepare, 13 Fulfill, 14 Reject." ∷ [];
      advice = codes "What to do: Call the reader of the other packet, or reject the bytes." ∷ [];
    } ∷
    record {
      number = 12;
      home = codes "st_ilp";
      variant = codes "IlpError::Expiry";
      places = [];
      cause = codes "An expiry is not 17 digits of an existing date and time of the years 0000 to 9999." ∷ [];
      advice = codes "What to do: Correct the expiry." ∷ [];
    } ∷
    record {
      number = 13;
      home = codes "st_ilp";
      variant = codes "IlpError::Address";
      places = [];
      cause = codes "A destination is not an ILP address, or a `triggeredBy` is neither empty nor an address." ∷ [];
      advice = codes "What to do: Correct the address: 1 to 1,023 letters, digits, `_`, `~`, `-` and dots, no empty" ∷
          codes "segment." ∷
          [];
    } ∷
    record {
      number = 14;
      home = codes "st_ilp";
      variant = codes "IlpError::DataTooLong";
      places = [];
      cause = codes "Data has more than 32,767 bytes, or a message to be written more than 8,191." ∷ [];
      advice = codes "What to do: Send less in one packet." ∷ [];
    } ∷
    record {
      number = 15;
      home = codes "st_ilp";
      variant = codes "IlpError::NotUtf8";
      places = [];
      cause = codes "The message of a Reject is not UTF-8." ∷ [];
      advice = codes "What to do: Reject the bytes." ∷ [];
    } ∷
    record {
      number = 16;
      home = codes "st_ilp";
      variant = codes "IlpError::Code";
      places = [];
      cause = codes "The code of a Reject has a character outside `!` to `~`." ∷ [];
      advice = codes "What to do: Correct the code." ∷ [];
    } ∷
    record {
      number = 17;
      home = codes "st_ilp";
      variant = codes "IlpError::Trailing";
      places = [];
      cause = codes "Bytes follow the last field or the packet." ∷ [];
      advice = codes "What to do: Cut the bytes at the packet's end, or reject them." ∷ [];
    } ∷
    record {
      number = 18;
      home = codes "st_ilp";
      variant = codes "IlpError::NoMemory";
      places = [];
      cause = codes "Out of memory for the packet to be written. Reading never gives it." ∷ [];
      advice = codes "What to do: Free memory and repeat the call." ∷ [];
    } ∷
    record {
      number = 20;
      home = codes "st_frames";
      variant = codes "FrameError::Version";
      places = codes "a line of frames" ∷ [];
      cause = codes "The first byte of a STREAM packet is another version than 1." ∷ [];
      advice = codes "What to do: The peer speaks another version of STREAM." ∷ [];
    } ∷
    record {
      number = 21;
      home = codes "st_frames";
      variant = codes "FrameError::Kind";
      places = codes "a line of frames" ∷ [];
      cause = codes "The second byte is not the kind of the ILP packet that carried it. `frames` wants 12, a" ∷
          codes "Prepare's." ∷
          [];
      advice = codes "What to do: Read the packet as the kind of its ILP packet." ∷ [];
    } ∷
    record {
      number = 22;
      home = codes "st_frames";
      variant = codes "FrameError::Oer";
      places = codes "a line of frames" ∷ [];
      cause = codes "The kind is missing, or a number, a frame's type or a frame's length is malformed." ∷ [];
      advice = codes "What to do: See the number in brackets." ∷ [];
    } ∷
    record {
      number = 23;
      home = codes "st_frames";
      variant = codes "FrameError::FrameFormat";
      places = codes "a line of frames" ∷ [];
      cause = codes "The contents of a frame of known type are malformed. When writing: an address of a frame is not" ∷
          codes "one." ∷
          [];
      advice = codes "What to do: See the index in brackets." ∷ [];
    } ∷
    record {
      number = 24;
      home = codes "st_frames";
      variant = codes "FrameError::TooLong";
      places = codes "a line of frames" ∷ [];
      cause = codes "The packet has more than 32,739 bytes." ∷ [];
      advice = codes "What to do: Send less in one packet." ∷ [];
    } ∷
    record {
      number = 25;
      home = codes "st_frames";
      variant = codes "FrameError::NoMemory";
      places = [];
      cause = codes "Out of memory for the packet to be written. Reading never gives it." ∷ [];
      advice = codes "What to do: Free memory and repeat the call." ∷ [];
    } ∷
    record {
      number = 30;
      home = codes "st_keys";
      variant = codes "KeyError::Short";
      places = [];
      cause = codes "A payload has fewer than the 28 bytes of an IV and a tag." ∷ [];
      advice = codes "What to do: The payload was cut, or is not STREAM's." ∷ [];
    } ∷
    record {
      number = 31;
      home = codes "st_keys";
      variant = codes "KeyError::Tag";
      places = [];
      cause = codes "The tag is not that of the ciphertext. The bytes are unchanged." ∷ [];
      advice = codes "What to do: Both ends need the same secret. If they have it, the payload was changed on the way." ∷ [];
    } ∷
    record {
      number = 32;
      home = codes "st_keys";
      variant = codes "KeyError::Packet";
      places = [];
      cause = codes "The decrypted packet cannot be read, or the packet to be sealed cannot be written." ∷ [];
      advice = codes "What to do: See the number in brackets." ∷ [];
    } ∷
    record {
      number = 33;
      home = codes "st_keys";
      variant = codes "KeyError::NoMemory";
      places = [];
      cause = codes "Out of memory for the payload to be sealed. Opening never gives it." ∷ [];
      advice = codes "What to do: Free memory and repeat the call." ∷ [];
    } ∷
    record {
      number = 34;
      home = codes "st_hop";
      variant = codes "HopError::BadTable";
      places = [];
      cause = codes "The connector's own address or a prefix is not an ILP address, a route names an account that" ∷
          codes "does not exist, a prefix is there twice, or a limit is above 2^63 - 1." ∷
          [];
      advice = codes "What to do: Correct the table." ∷ [];
    } ∷
    record {
      number = 35;
      home = codes "ilpstream_net";
      variant = codes "RunError::NoHop";
      places = codes "connector" ∷ [];
      cause = codes "In `connector`: out of memory for the accounts and the routes of its table. Nothing was listened" ∷
          codes "to." ∷
          [];
      advice = codes "What to do: Give the process more memory." ∷ [];
    } ∷
    record {
      number = 35;
      home = codes "st_hop";
      variant = codes "HopError::NoMemory";
      places = [];
      cause = codes "Out of memory. The hop is as before the call." ∷ [];
      advice = codes "What to do: Answer the Prepare with the Reject that `t00` lends; the sender retries." ∷ [];
    } ∷
    record {
      number = 36;
      home = codes "st_hop";
      variant = codes "HopError::NoAccount";
      places = [];
      cause = codes "There is no account of this number." ∷ [];
      advice = codes "What to do: Pass the number of an account of the table, from 0." ∷ [];
    } ∷
    record {
      number = 37;
      home = codes "st_hop";
      variant = codes "HopError::BadBooks";
      places = [];
      cause = codes "In `restored` and `ilp_hop_restored`: not each account has a claim and a due, an account owes" ∷
          codes "more than its limit plus its due, or a sum is above 2^63 - 1." ∷
          [];
      advice = codes "What to do: Pass the books that a hop with these accounts left. A limit may not be lowered below" ∷
          codes "what the account owes." ∷
          [];
    } ∷
    record {
      number = 40;
      home = codes "st_reassembly";
      variant = codes "InboxError::PastWindow";
      places = codes "a line of frames" ∷ [];
      cause = codes "A chunk ends more than 65,536 bytes past what was read of the stream. In `frames`: offset plus" ∷
          codes "length is above 65,536." ∷
          [];
      advice = codes "What to do: Read the stream first, or send the chunk later." ∷ [];
    } ∷
    record {
      number = 41;
      home = codes "st_reassembly";
      variant = codes "InboxError::Overflow";
      places = codes "a line of frames" ∷ [];
      cause = codes "A chunk ends past the greatest offset, 2^64 - 1." ∷ [];
      advice = codes "What to do: The offset or the length is wrong." ∷ [];
    } ∷
    record {
      number = 42;
      home = codes "st_reassembly";
      variant = codes "InboxError::NoMemory";
      places = codes "a line of frames" ∷ [];
      cause = codes "Out of memory for a stream's bytes. In `frames` it refuses the line." ∷ [];
      advice = codes "What to do: Give the process more memory." ∷ [];
    } ∷
    record {
      number = 50;
      home = codes "st_hub";
      variant = codes "HubError::NoStream";
      places = [];
      cause = codes "The stream is not open." ∷ [];
      advice = codes "What to do: Use a number that `open_stream` returned or that the peer opened." ∷ [];
    } ∷
    record {
      number = 50;
      home = codes "st_sender";
      variant = codes "OutboxError::NoStream";
      places = [];
      cause = codes "The stream is not open." ∷ [];
      advice = codes "What to do: Use a number that `open_stream` returned or that the peer opened." ∷ [];
    } ∷
    record {
      number = 50;
      home = codes "st_streams";
      variant = codes "EndError::NoStream";
      places = [];
      cause = codes "The stream is not open, or all stream numbers of this end are used: 32 each." ∷ [];
      advice = codes "What to do: Use a number that `open_stream` returned or that the peer opened." ∷ [];
    } ∷
    record {
      number = 51;
      home = codes "st_sender";
      variant = codes "OutboxError::Closed";
      places = [];
      cause = codes "The stream was closed or aborted at this end." ∷ [];
      advice = codes "What to do: Write nothing more." ∷ [];
    } ∷
    record {
      number = 51;
      home = codes "st_streams";
      variant = codes "EndError::Closed";
      places = [];
      cause = codes "The stream was closed or aborted at this end, or the peer closed the connection." ∷ [];
      advice = codes "What to do: Write nothing more. What was received can still be read." ∷ [];
    } ∷
    record {
      number = 52;
      home = codes "st_sender";
      variant = codes "OutboxError::Full";
      places = [];
      cause = codes "In the sending side: more than 262,144 bytes of the stream would wait for an acknowledgement, or" ∷
          codes "all streams together would have accepted 2^63 bytes." ∷
          [];
      advice = codes "What to do: Write again once the peer acknowledged some, or write less." ∷ [];
    } ∷
    record {
      number = 52;
      home = codes "st_streams";
      variant = codes "EndError::Full";
      places = [];
      cause = codes "More than 262,144 bytes of the stream would wait for an acknowledgement, or all streams together" ∷
          codes "would have accepted 2^63 bytes." ∷
          [];
      advice = codes "What to do: Write again once the peer acknowledged some, or write less." ∷ [];
    } ∷
    record {
      number = 53;
      home = codes "st_sender";
      variant = codes "OutboxError::AmountTooLarge";
      places = [];
      cause = codes "In the sending side: all offers together would be 2^63 units or more." ∷ [];
      advice = codes "What to do: Offer less." ∷ [];
    } ∷
    record {
      number = 53;
      home = codes "st_streams";
      variant = codes "EndError::AmountTooLarge";
      places = [];
      cause = codes "All offers together would be 2^63 units or more." ∷ [];
      advice = codes "What to do: Offer less." ∷ [];
    } ∷
    record {
      number = 54;
      home = codes "st_sender";
      variant = codes "OutboxError::NoMemory";
      places = [];
      cause = codes "Out of memory in the sending side. It is as before the call." ∷ [];
      advice = codes "What to do: Free memory and repeat the call." ∷ [];
    } ∷
    record {
      number = 54;
      home = codes "st_streams";
      variant = codes "EndError::NoMemory";
      places = codes "send" ∷
          codes "receive" ∷
          [];
      cause = codes "Out of memory in an end of a connection. The end is as before the call." ∷ [];
      advice = codes "What to do: Program: give the process more memory and begin again. Call: free memory and repeat" ∷
          codes "it; a Prepare is answered with the Reject that `t00` lends." ∷
          [];
    } ∷
    record {
      number = 58;
      home = codes "ilpstream_local";
      variant = codes "LocalFault::Failed";
      places = codes "local" ∷ [];
      cause = codes "In `local`: 200 Prepares in a row were lost." ∷ [];
      advice = codes "What to do: Lose fewer with `--lose`." ∷ [];
    } ∷
    record {
      number = 58;
      home = codes "ilpstream_serving";
      variant = codes "TransferError::Failed";
      places = codes "send" ∷ [];
      cause = codes "In `send`: the connection failed. At once, if a packet was refused for good: no route leads to" ∷
          codes "`--peer`, or the receiver has another secret or another address. Otherwise after 200 exchanges" ∷
          codes "in a row without success: nobody listens at `--to`, a wrong token, no way on from a connector, a" ∷
          codes "LIMIT that is used up, too little that arrives for `--least`, or clocks that differ. While no" ∷
          codes "answer arrives, or a Reject with a code of letter T, the 200 are spread over the seconds of" ∷
          codes "`--patience`, ten if it is left out." ∷
          [];
      advice = codes "What to do: Look at `--to` and the tokens, then at the table's routes, then at LIMIT, rates and" ∷
          codes "clocks. Then begin again with a new secret." ∷
          [];
    } ∷
    record {
      number = 58;
      home = codes "st_streams";
      variant = codes "EndError::ConnectionFailed";
      places = [];
      cause = codes "The connection failed: 200 Prepares in a row without a Fulfill, or a final Reject code." ∷ [];
      advice = codes "What to do: Open a new connection with a new secret." ∷ [];
    } ∷
    record {
      number = 59;
      home = codes "ilpstream_serving";
      variant = codes "TransferError::Stalled";
      places = codes "send" ∷ [];
      cause = codes "In `send`: nothing more can be sent. The limits that the receiver advertised let nothing of the" ∷
          codes "rest be sent, most often of the money, and no packet waits for an answer that could raise them." ∷
          [];
      advice = codes "What to do: Compare `--money` with `receive --receive-max`, and both totals. Stop the receiver" ∷
          codes "too, unless it has `--patience`." ∷
          [];
    } ∷
    record {
      number = 60;
      home = codes "st_receiver";
      variant = codes "Reason::Repeated";
      places = [];
      cause = codes "A Prepare with this sequence was fulfilled before." ∷ [];
      advice = codes "What to do: Nothing: the sender sends its contents again under another sequence if it needs to." ∷ [];
    } ∷
    record {
      number = 61;
      home = codes "st_receiver";
      variant = codes "Reason::AmountTooSmall";
      places = [];
      cause = codes "The amount that arrived is below the prepare amount of the packet." ∷ [];
      advice = codes "What to do: Compare the rates of the connectors with `send --least`." ∷ [];
    } ∷
    record {
      number = 62;
      home = codes "st_receiver";
      variant = codes "Reason::FlowControl";
      places = [];
      cause = codes "Data ends past the window of its stream or of the connection, or past 2^64 - 1." ∷ [];
      advice = codes "What to do: The sender ignores the limits that this end advertised." ∷ [];
    } ∷
    record {
      number = 63;
      home = codes "ilpstream_frames";
      variant = codes "LineError::StreamId";
      places = codes "a line of frames" ∷ [];
      cause = codes "In `frames`: a StreamData frame names stream 0 or a stream above 64." ∷ [];
      advice = codes "What to do: Use 1 to 64." ∷ [];
    } ∷
    record {
      number = 63;
      home = codes "st_receiver";
      variant = codes "Reason::StreamId";
      places = [];
      cause = codes "A frame names stream 0, a stream above 64, or a stream of this end's own numbers that is not" ∷
          codes "open." ∷
          [];
      advice = codes "What to do: The sender uses numbers of the other side, or more than 64 streams." ∷ [];
    } ∷
    record {
      number = 64;
      home = codes "st_receiver";
      variant = codes "Reason::NoShares";
      places = [];
      cause = codes "The packet carries money and no shares for any stream, or the shares add up to 2^64 or more." ∷ [];
      advice = codes "What to do: The sender has to add a StreamMoney frame." ∷ [];
    } ∷
    record {
      number = 65;
      home = codes "st_receiver";
      variant = codes "Reason::OverReceiveMax";
      places = [];
      cause = codes "A stream's credit would pass its receive max, or the connection's credit 2^63 - 1." ∷ [];
      advice = codes "What to do: Raise the receive max (`receive --receive-max`), or offer less." ∷ [];
    } ∷
    record {
      number = 66;
      home = codes "st_receiver";
      variant = codes "Reason::ConnectionClosed";
      places = [];
      cause = codes "The peer closed the connection before." ∷ [];
      advice = codes "What to do: Open a new connection with a new secret." ∷ [];
    } ∷
    record {
      number = 67;
      home = codes "st_receiver";
      variant = codes "Reason::NoMemory";
      places = [];
      cause = codes "Out of memory for the packet. The Reject has code T00." ∷ [];
      advice = codes "What to do: The sender retries. Give the process more memory." ∷ [];
    } ∷
    record {
      number = 68;
      home = codes "st_hop_desk";
      variant = codes "DeskError::NoShareLeft";
      places = [];
      cause = codes "63 threads have shares of this desk." ∷ [];
      advice = codes "What to do: Use at most 63 threads." ∷ [];
    } ∷
    record {
      number = 68;
      home = codes "st_hub";
      variant = codes "HubError::NoShareLeft";
      places = [];
      cause = codes "63 threads have shares of this hub." ∷ [];
      advice = codes "What to do: Use at most 63 threads." ∷ [];
    } ∷
    record {
      number = 69;
      home = codes "ilpstream_serving";
      variant = codes "TransferError::Rings";
      places = codes "send" ∷ [];
      cause = codes "In `send`: out of memory for the rings of its streams. Nothing was sent." ∷ [];
      advice = codes "What to do: Give the process more memory: a transfer needs some megabytes." ∷ [];
    } ∷
    record {
      number = 69;
      home = codes "st_queues";
      variant = codes "QueueError::NoMemory";
      places = [];
      cause = codes "Out of memory for the rings." ∷ [];
      advice = codes "What to do: Free memory and repeat the call." ∷ [];
    } ∷
    record {
      number = 70;
      home = codes "st_queues";
      variant = codes "QueueError::Full";
      places = [];
      cause = codes "The ring has no room. The chunk is returned." ∷ [];
      advice = codes "What to do: Write again after the hub has pumped." ∷ [];
    } ∷
    record {
      number = 71;
      home = codes "st_queues";
      variant = codes "QueueError::BadLength";
      places = [];
      cause = codes "The chunk is empty or has more than 4,096 bytes. The chunk is returned." ∷ [];
      advice = codes "What to do: Write 1 to 4,096 bytes." ∷ [];
    } ∷
    record {
      number = 72;
      home = codes "st_queues";
      variant = codes "QueueError::Ended";
      places = [];
      cause = codes "The writer has ended. The chunk is returned." ∷ [];
      advice = codes "What to do: Write nothing more with this writer." ∷ [];
    } ∷
    record {
      number = 73;
      home = codes "st_hop_desk";
      variant = codes "DeskError::Stranger";
      places = [];
      cause = codes "The ticket is not open at this desk. Nothing changes." ∷ [];
      advice = codes "What to do: Settle each ticket once, at the desk that gave it." ∷ [];
    } ∷
    record {
      number = 73;
      home = codes "st_hub";
      variant = codes "HubError::Stranger";
      places = [];
      cause = codes "The `Turn` is not open at this hub. Nothing changes." ∷ [];
      advice = codes "What to do: Finish each `Turn` once, at the hub that gave it." ∷ [];
    } ∷
    record {
      number = 74;
      home = codes "st_hop_desk";
      variant = codes "DeskError::MissingShare";
      places = [];
      cause = codes "Not every share of the desk that is out was given back. The shares are returned." ∷ [];
      advice = codes "What to do: Give back the shares of every thread." ∷ [];
    } ∷
    record {
      number = 74;
      home = codes "st_hub";
      variant = codes "HubError::MissingShare";
      places = [];
      cause = codes "Not every share of the hub that is out was given back. The shares are returned." ∷ [];
      advice = codes "What to do: Give back the shares of every thread." ∷ [];
    } ∷
    record {
      number = 75;
      home = codes "st_hop_desk";
      variant = codes "DeskError::NoMemory";
      places = [];
      cause = codes "Out of memory. A connector answers the request with HTTP status 500." ∷ [];
      advice = codes "What to do: Give the process more memory; the sender retries." ∷ [];
    } ∷
    record {
      number = 75;
      home = codes "st_hub";
      variant = codes "HubError::NoMemory";
      places = [];
      cause = codes "Out of memory. What was moved before stays moved." ∷ [];
      advice = codes "What to do: Free memory and repeat the call." ∷ [];
    } ∷
    record {
      number = 76;
      home = codes "st_hub";
      variant = codes "HubError::EightWriters";
      places = [];
      cause = codes "The stream has eight writers already." ∷ [];
      advice = codes "What to do: Use at most eight writers on a stream." ∷ [];
    } ∷
    record {
      number = 77;
      home = codes "st_world";
      variant = codes "Fault::NoMemory";
      places = [];
      cause = codes "Out of memory for the record of a world. The world is as before the event." ∷ [];
      advice = codes "What to do: Free memory and repeat the event." ∷ [];
    } ∷
    record {
      number = 77;
      home = codes "st_world_quiet";
      variant = codes "Fault::NoMemory";
      places = [];
      cause = codes "Out of memory for the record of a lossless run." ∷ [];
      advice = codes "What to do: Free memory and play it again. The returned trace has the events before." ∷ [];
    } ∷
    record {
      number = 78;
      home = codes "st_world";
      variant = codes "Fault::BadChain";
      places = [];
      cause = codes "There are more than eight hops, or a hop has a limit above 2^63 - 1." ∷ [];
      advice = codes "What to do: Pass at most eight hops with lawful limits." ∷ [];
    } ∷
    record {
      number = 78;
      home = codes "st_world_quiet";
      variant = codes "Fault::BadInput";
      places = [];
      cause = codes "There is no stream, more than 32, or not one amount for each." ∷ [];
      advice = codes "What to do: Pass 1 to 32 streams, each with an amount." ∷ [];
    } ∷
    record {
      number = 79;
      home = codes "st_hub";
      variant = codes "HubError::WriterTooLate";
      places = [];
      cause = codes "The stream was closed or aborted." ∷ [];
      advice = codes "What to do: Add writers before the stream's last writer ends." ∷ [];
    } ∷
    record {
      number = 80;
      home = codes "ilpstream_net";
      variant = codes "RunError::NoListener";
      places = codes "receive" ∷
          codes "connector" ∷
          [];
      cause = codes "Nothing can listen at `--listen`." ∷ [];
      advice = codes "What to do: Another program has the port, the address is not one of this host, or a port below" ∷
          codes "1,024 needs a right." ∷
          [];
    } ∷
    record {
      number = 80;
      home = codes "ilpstream_serving";
      variant = codes "TransferError::Accept";
      places = codes "receive" ∷
          codes "connector" ∷
          [];
      cause = codes "No connection could be accepted in 100 tries in a row, 10 ms apart, or `receive` could make no" ∷
          codes "thread. Both commands end so only once none of their threads has a connection." ∷
          [];
      advice = codes "What to do: The process may have too many open files: see `ulimit -n`." ∷ [];
    } ∷
    record {
      number = 80;
      home = codes "st_http";
      variant = codes "HttpError::ReadFault";
      places = [];
      cause = codes "The stream returned an error to a read." ∷ [];
      advice = codes "What to do: The connection broke. Repeat the exchange on a new one." ∷ [];
    } ∷
    record {
      number = 81;
      home = codes "st_http";
      variant = codes "HttpError::WriteFault";
      places = [];
      cause = codes "The stream returned an error to a write." ∷ [];
      advice = codes "What to do: The connection broke. Repeat the exchange on a new one." ∷ [];
    } ∷
    record {
      number = 82;
      home = codes "st_http";
      variant = codes "HttpError::BadHead";
      places = [];
      cause = codes "A response has no head within the limits, or a response 200 has no lawful length." ∷ [];
      advice = codes "What to do: The neighbour does not speak ILP over HTTP, or uses chunked bodies." ∷ [];
    } ∷
    record {
      number = 83;
      home = codes "st_http";
      variant = codes "HttpError::Status";
      places = [];
      cause = codes "A response has another status than 200, or a request is answered with this status." ∷ [];
      advice = codes "What to do: See Statuses of HTTP in docs/ERRORS.md." ∷ [];
    } ∷
    record {
      number = 84;
      home = codes "ilpstream_local";
      variant = codes "LocalFault::TooLong";
      places = codes "local" ∷ [];
      cause = codes "In `local`: the input has more than 1,048,576 bytes." ∷ [];
      advice = codes "What to do: Give it less." ∷ [];
    } ∷
    record {
      number = 84;
      home = codes "st_http";
      variant = codes "HttpError::TooLong";
      places = [];
      cause = codes "The body of a response has more than 65,535 bytes." ∷ [];
      advice = codes "What to do: The neighbour sends more than an ILP packet." ∷ [];
    } ∷
    record {
      number = 85;
      home = codes "st_http";
      variant = codes "HttpError::Cut";
      places = [];
      cause = codes "The input ended before the message was complete." ∷ [];
      advice = codes "What to do: The connection broke. Repeat the exchange on a new one." ∷ [];
    } ∷
    record {
      number = 86;
      home = codes "ilpstream_serving";
      variant = codes "TransferError::Turns";
      places = codes "send" ∷
          codes "receive" ∷
          [];
      cause = codes "In `receive`: 2,147,483,647 connections were accepted. In `send`: a worker looked 2,147,483,647" ∷
          codes "times for something to send." ∷
          [];
      advice = codes "What to do: Begin again, with a new secret." ∷ [];
    } ∷
    record {
      number = 86;
      home = codes "st_http";
      variant = codes "HttpError::Turns";
      places = [];
      cause = codes "The given number of I/O calls was used up before the message was complete." ∷ [];
      advice = codes "What to do: Allow more calls; a peer may be sending byte by byte." ∷ [];
    } ∷
    record {
      number = 87;
      home = codes "st_http";
      variant = codes "HttpError::NoMemory";
      places = [];
      cause = codes "Out of memory for the message." ∷ [];
      advice = codes "What to do: Free memory and repeat the exchange on a new connection." ∷ [];
    } ∷
    record {
      number = 88;
      home = codes "ilpstream_serving";
      variant = codes "TransferError::Silent";
      places = codes "receive" ∷ [];
      cause = codes "In `receive`: no valid request arrived for as many seconds as `--patience` says. What arrived" ∷
          codes "before is written." ∷
          [];
      advice = codes "What to do: Look why the sender stopped. What is written is a beginning of the file, or all of" ∷
          codes "it if only the close or money is missing." ∷
          [];
    } ∷
    record {
      number = 89;
      home = codes "st_file";
      variant = codes "FileError::Closed";
      places = codes "send" ∷ [];
      cause = codes "The sink accepts nothing any more. In `send`: the workers ended, and there was no memory to note" ∷
          codes "why." ∷
          [];
      advice = codes "What to do: Give the process more memory, and begin again." ∷ [];
    } ∷
    record {
      number = 90;
      home = codes "ilpstream_local";
      variant = codes "LocalFault::Input";
      places = codes "local" ∷ [];
      cause = codes "In `local`: standard input cannot be read." ∷ [];
      advice = codes "What to do: Look at the file after `<`." ∷ [];
    } ∷
    record {
      number = 90;
      home = codes "ilpstream_net";
      variant = codes "RunError::NoRandom";
      places = codes "send" ∷ [];
      cause = codes "In `send`: the file of random bytes cannot be opened." ∷ [];
      advice = codes "What to do: Look at `--random`." ∷ [];
    } ∷
    record {
      number = 90;
      home = codes "ilpstream_output";
      variant = codes "Fault::Input";
      places = codes "frames" ∷
          codes "local" ∷
          codes "send" ∷
          codes "connector" ∷
          [];
      cause = codes "In `frames` and `connector`: standard input cannot be read. In `send`, `connector` and `local" ∷
          codes "--totals`: it is closed; nothing was opened or sent." ∷
          [];
      advice = codes "What to do: Look at the file after `<`." ∷ [];
    } ∷
    record {
      number = 90;
      home = codes "ilpstream_serving";
      variant = codes "TransferError::IvFault";
      places = codes "send" ∷ [];
      cause = codes "In `send`: the file of random bytes cannot be read, or has no twelve bytes left." ∷ [];
      advice = codes "What to do: Use a file that does not end, such as `/dev/urandom`." ∷ [];
    } ∷
    record {
      number = 90;
      home = codes "st_file";
      variant = codes "FileError::ReadFault";
      places = codes "send" ∷ [];
      cause = codes "In `send`: standard input cannot be read." ∷ [];
      advice = codes "What to do: Look at the file after `<`." ∷ [];
    } ∷
    record {
      number = 91;
      home = codes "ilpstream_local";
      variant = codes "LocalFault::Output";
      places = codes "local" ∷ [];
      cause = codes "In `local`: the output cannot be written." ∷ [];
      advice = codes "What to do: Make room." ∷ [];
    } ∷
    record {
      number = 91;
      home = codes "ilpstream_output";
      variant = codes "Fault::Output";
      places = codes "frames" ∷
          codes "local" ∷
          codes "send" ∷
          codes "receive" ∷
          codes "connector" ∷
          codes "ledger" ∷
          codes "explain" ∷
          [];
      cause = codes "In `frames`, `ledger` and `explain`: the output cannot be written. In `receive`, `ledger` and" ∷
          codes "`local --totals`: standard output is closed; nothing else was done. In `send`, `receive`," ∷
          codes "`connector` and `local`: the totals cannot be written to the file of `--totals`, or lines wait" ∷
          codes "at the end that could not be written to that of `--log`, and there was no other fault." ∷
          [];
      advice = codes "What to do: Make room. Totals and lines that were not written are lost; all else was done." ∷ [];
    } ∷
    record {
      number = 91;
      home = codes "st_file";
      variant = codes "FileError::WriteFault";
      places = codes "receive" ∷ [];
      cause = codes "In `receive`: the output cannot be written, for example on a full disk or to a closed pipe." ∷ [];
      advice = codes "What to do: Make room. What is written is a beginning of the file. Begin again." ∷ [];
    } ∷
    record {
      number = 92;
      home = codes "st_file";
      variant = codes "FileError::Aborted";
      places = codes "receive" ∷ [];
      cause = codes "In `receive`: the sender aborted the stream." ∷ [];
      advice = codes "What to do: Ask the sender. What is written is a beginning of the file." ∷ [];
    } ∷
    record {
      number = 93;
      home = codes "ilpstream_local";
      variant = codes "LocalFault::Turns";
      places = codes "local" ∷ [];
      cause = codes "In `local`: 2,147,483,647 reads, writes and flushes were used up." ∷ [];
      advice = codes "What to do: Use an input that gives more bytes in a call." ∷ [];
    } ∷
    record {
      number = 93;
      home = codes "ilpstream_output";
      variant = codes "Fault::Turns";
      places = codes "frames" ∷
          codes "local" ∷
          codes "connector" ∷
          codes "ledger" ∷
          codes "explain" ∷
          [];
      cause = codes "2,147,483,647 reads, writes and flushes were used up." ∷ [];
      advice = codes "What to do: Give the input in smaller parts." ∷ [];
    } ∷
    record {
      number = 93;
      home = codes "st_file";
      variant = codes "FileError::Turns";
      places = codes "send" ∷
          codes "receive" ∷
          [];
      cause = codes "In `send` and `receive`: 2,147,483,647 calls of the input or the output were used up." ∷ [];
      advice = codes "What to do: Begin again, in smaller parts." ∷ [];
    } ∷
    record {
      number = 94;
      home = codes "st_file";
      variant = codes "FileError::NoMemory";
      places = codes "send" ∷ [];
      cause = codes "In `send`: out of memory for a chunk of the input." ∷ [];
      advice = codes "What to do: Give the process more memory: a transfer needs some megabytes." ∷ [];
    } ∷
    record {
      number = 95;
      home = codes "ilpstream_frames";
      variant = codes "LineError::NotHex";
      places = codes "a line of frames" ∷ [];
      cause = codes "In `frames`: a character is not a hexadecimal digit, or the number of digits is odd." ∷ [];
      advice = codes "What to do: Remove byte order marks, `0x`, spaces and tabs." ∷ [];
    } ∷
    record {
      number = 96;
      home = codes "ilpstream_net";
      variant = codes "RunError::BadTable";
      places = codes "connector" ∷ [];
      cause = codes "In `connector`, the table is bad. It is not UTF-8, or a line is neither an account nor a route." ∷
          codes "Or a number is out of its range, or no request may have a host or a token of it. Or a route" ∷
          codes "names an account that does not exist, a prefix is there twice, or a prefix is not an ILP" ∷
          codes "address. Or two accounts have one name." ∷
          [];
      advice = codes "What to do: Look at each line of the table. A HOST:PORT has a port up to 65,535; a rate is two" ∷
          codes "numbers with a space between." ∷
          [];
    } ∷
    record {
      number = 96;
      home = codes "ilpstream_settings";
      variant = codes "TableError::BadLine";
      places = [];
      cause = codes "A line of the table has words and is neither an account nor a route." ∷ [];
      advice = codes "What to do: Look at that line: a number, a rate, a token or a HOST:PORT in it may be bad." ∷ [];
    } ∷
    record {
      number = 96;
      home = codes "ilpstream_settings";
      variant = codes "TableError::SameName";
      places = [];
      cause = codes "Two accounts of the table have one name: `NAME=` with one text, or with the number of an account" ∷
          codes "without a name." ∷
          [];
      advice = codes "What to do: Give each account another name." ∷ [];
    } ∷
    record {
      number = 97;
      home = codes "ilpstream_local";
      variant = codes "LocalFault::Events";
      places = codes "local" ∷ [];
      cause = codes "In `local`: 1,000,000 events were not enough." ∷ [];
      advice = codes "What to do: Use fewer hops, or lose fewer Prepares." ∷ [];
    } ∷
    record {
      number = 98;
      home = codes "ilpstream_net";
      variant = codes "RunError::BadOption";
      places = codes "local" ∷
          codes "send" ∷
          codes "receive" ∷
          codes "connector" ∷
          codes "ledger" ∷
          codes "explain" ∷
          [];
      cause = codes "The text of an option or an argument is bad. A number has no plus in front, a secret has 64" ∷
          codes "hexadecimal digits, an address is an ILP address, and `--least` is NUM:DEN. A token and a" ∷
          codes "HOST:PORT are such as a request may have, and `ledger --help` says what a payment is. Or the" ∷
          codes "file of `--totals` or `--log` cannot be opened; in `connector` and `local`, no file can be made" ∷
          codes "next to that of `--totals`. Or that of `--token-file` or `--secret-file` cannot be read, or its" ∷
          codes "first line is not a token or a secret. Or that of `--control` is not a pipe, or cannot be" ∷
          codes "opened; or that of `--table` cannot be read." ∷
          [];
      advice = codes "What to do: Correct the option or the file. Nothing else was opened, and nothing was sent." ∷ [];
    } ∷
    record {
      number = 99;
      home = codes "ilpstream_ledger";
      variant = codes "LedgerError::NoMemory";
      places = codes "connector" ∷
          codes "ledger" ∷
          [];
      cause = codes "In `connector --ledger` and `ledger`: out of memory for what the books have. After `settle` or" ∷
          codes "`adjust` the entry may be booked." ∷
          [];
      advice = codes "What to do: Give the process more memory. After `settle` or `adjust` look with `ledger FILE`" ∷
          codes "first, or give it again with the same reference." ∷
          [];
    } ∷
    record {
      number = 99;
      home = codes "ilpstream_local";
      variant = codes "LocalFault::NoMemory";
      places = codes "local" ∷ [];
      cause = codes "In `local`: out of memory. Nothing was written." ∷ [];
      advice = codes "What to do: Give the process more memory." ∷ [];
    } ∷
    record {
      number = 99;
      home = codes "ilpstream_output";
      variant = codes "Fault::NoMemory";
      places = codes "frames" ∷
          codes "local" ∷
          codes "send" ∷
          codes "receive" ∷
          codes "connector" ∷
          codes "explain" ∷
          [];
      cause = codes "Out of memory for a line, a text, a table or the arguments." ∷ [];
      advice = codes "What to do: Give the process more memory." ∷ [];
    } ∷
    record {
      number = 99;
      home = codes "ilpstream_serving";
      variant = codes "TransferError::NoMemory";
      places = codes "send" ∷
          codes "connector" ∷
          [];
      cause = codes "In `send` and `connector`: out of memory for links, for threads or for the totals of accounts," ∷
          codes "or not one thread could be made." ∷
          [];
      advice = codes "What to do: Give the process more memory (a transfer needs some megabytes), or let it have more" ∷
          codes "threads: see `ulimit -u`." ∷
          [];
    } ∷
    record {
      number = 99;
      home = codes "ilpstream_settings";
      variant = codes "TableError::NoMemory";
      places = [];
      cause = codes "In `connector`: out of memory for the table." ∷ [];
      advice = codes "What to do: Give the process more memory." ∷ [];
    } ∷
    record {
      number = 110;
      home = codes "st_hop_books";
      variant = codes "BooksError::NoBooks";
      places = codes "connector" ∷
          codes "ledger" ∷
          [];
      cause = codes "The file has no books: it is not a database, has other tables, a row that is no line of its" ∷
          codes "table, or a name twice. Or it lacks the view `books`, or has another version in it, or, in" ∷
          codes "`connector --ledger`, another address than `--own`. Or its log is damaged, does not continue the" ∷
          codes "file, or is there without the file. Both are left as they are. If books have to be there" ∷
          codes "already: no file, or an empty one. None is made." ∷
          [];
      advice = codes "What to do: Name the right file. If the log is damaged or of another time than the file, or the" ∷
          codes "file is gone, put the last copy of both files back, and compare the sums with each neighbour. A" ∷
          codes "table, an index or a trigger that was added manually has to be dropped. Books of another" ∷
          codes "version, or from before they had the view `books`, cannot be read: make new ones." ∷
          [];
    } ∷
    record {
      number = 111;
      home = codes "st_hop_books";
      variant = codes "BooksError::Taken";
      places = codes "connector" ∷
          codes "ledger" ∷
          [];
      cause = codes "Another process has the file, or it cannot be opened." ∷ [];
      advice = codes "What to do: Stop the other process, and look at the rights of the file and of its folder." ∷ [];
    } ∷
    record {
      number = 112;
      home = codes "st_hop_books";
      variant = codes "BooksError::Device";
      places = codes "connector" ∷
          codes "ledger" ∷
          [];
      cause = codes "The disk failed. The books in memory are as before the call; open the file again to see what it" ∷
          codes "has. Or, in `connector --ledger`, the file or its log is not at its name as the last booking" ∷
          codes "left it." ∷
          [];
      advice = codes "What to do: Look at the disk, put the files back where they were moved, then start again." ∷ [];
    } ∷
    record {
      number = 113;
      home = codes "st_hop_books";
      variant = codes "BooksError::Full";
      places = codes "connector" ∷
          codes "ledger" ∷
          [];
      cause = codes "The disk is full, or SQLite's format is. The books in memory are as before the call." ∷ [];
      advice = codes "What to do: Make room, then start again." ∷ [];
    } ∷
    record {
      number = 114;
      home = codes "st_hop_books";
      variant = codes "BooksError::Damaged";
      places = codes "connector" ∷
          codes "ledger" ∷
          [];
      cause = codes "A read of the file failed a test." ∷ [];
      advice = codes "What to do: Take the last copy of both files, and compare the sums with each neighbour." ∷ [];
    } ∷
    record {
      number = 115;
      home = codes "st_hop_books";
      variant = codes "BooksError::Shut";
      places = codes "connector" ∷
          codes "ledger" ∷
          [];
      cause = codes "An earlier call met a failure of the disk, and the books are shut." ∷ [];
      advice = codes "What to do: Open the file again." ∷ [];
    } ∷
    record {
      number = 116;
      home = codes "st_hop_books";
      variant = codes "BooksError::NoAccount";
      places = codes "ledger" ∷ [];
      cause = codes "A booking or a payment names an account that the books do not have. Nothing is booked." ∷ [];
      advice = codes "What to do: Add the account first." ∷ [];
    } ∷
    record {
      number = 117;
      home = codes "st_hop_books";
      variant = codes "BooksError::TooMuch";
      places = codes "connector" ∷
          codes "ledger" ∷
          [];
      cause = codes "A sum of an account would be above 2^63 - 1, or the starts above 2^32 - 1; or an entry of" ∷
          codes "`ledger` or its time is above 2^63 - 1. Nothing changes." ∷
          [];
      advice = codes "What to do: Settle with the neighbour, and take what was paid off the sums." ∷ [];
    } ∷
    record {
      number = 118;
      home = codes "st_hop_books";
      variant = codes "BooksError::NameTaken";
      places = [];
      cause = codes "An account of this name is in the books already. Nothing changes." ∷ [];
      advice = codes "What to do: Use the account that is there, or another name." ∷ [];
    } ∷
    record {
      number = 119;
      home = codes "st_hop_books";
      variant = codes "BooksError::BadName";
      places = codes "connector" ∷
          codes "ledger" ∷
          [];
      cause = codes "SQLite cannot store a line with this name: it has about a billion bytes. Nothing changes." ∷ [];
      advice = codes "What to do: Use a shorter name." ∷ [];
    } ∷
    record {
      number = 120;
      home = codes "st_hop_books";
      variant = codes "BooksError::NoMemory";
      places = codes "connector" ∷
          codes "ledger" ∷
          [];
      cause = codes "Out of memory. The books are as before the call." ∷ [];
      advice = codes "What to do: Give the process more memory." ∷ [];
    } ∷
    record {
      number = 121;
      home = codes "st_hop_books";
      variant = codes "BooksError::TooLittle";
      places = codes "ledger" ∷ [];
      cause = codes "A payment is above what the account owes, or is owed. Nothing changes." ∷ [];
      advice = codes "What to do: Look at the sums, and book what they cover." ∷ [];
    } ∷
    record {
      number = 122;
      home = codes "ilpstream_ledger";
      variant = codes "LedgerError::Unlisted";
      places = codes "connector" ∷ [];
      cause = codes "In `connector --ledger`: the books have an account that the table lacks, and something is owed" ∷
          codes "there. Nothing was written, and nothing was listened to." ∷
          [];
      advice = codes "What to do: Give the table a line with this name. `ledger FILE` prints the names. Or settle with" ∷
          codes "the neighbour first." ∷
          [];
    } ∷
    record {
      number = 123;
      home = codes "ilpstream_ledger";
      variant = codes "LedgerError::BelowOwed";
      places = codes "connector" ∷ [];
      cause = codes "In `connector --ledger`: an account owes more than its LIMIT in the table and what it is owed." ∷
          codes "Nothing was written, and nothing was listened to." ∷
          [];
      advice = codes "What to do: Raise LIMIT, or settle with the neighbour first." ∷ [];
    } ∷
    record {
      number = 125;
      home = codes "ilpstream_ledger";
      variant = codes "LedgerError::Reused";
      places = codes "ledger" ∷ [];
      cause = codes "In `ledger`: the books have an entry of this account and side with this reference, and another" ∷
          codes "amount; or one was to be added and the other to be taken off. Nothing changes." ∷
          [];
      advice = codes "What to do: Look at the table `payment`, and give what is new a reference of its own." ∷ [];
    } ∷
    record {
      number = 126;
      home = codes "ilpstream_main";
      variant = codes "LocalError::PastBound";
      places = codes "local" ∷ [];
      cause = codes "In `local --totals`: more Prepares were sent than the bound of the file. The output and the file" ∷
          codes "were written whole." ∷
          [];
      advice = codes "What to do: Report it with the input and the options: no such run is known." ∷ [];
    } ∷
    []
