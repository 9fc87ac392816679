-- The numbers of include/noise.h: those of the codes, and of the marks with which the structs begin.
use Rattle.std.specs.Prelude.{◌≡◌, ℕ, List, ◌∷◌, []}
use Rattle.noise_c.specs.declared.codes.numbers.TheConstants.{AGREEMENT, ARROW, CLOSED, CUT, DATAGRAM_RECEIVER, DATAGRAM_SENDER, DONE, END, ENDED, ENDING, EPHEMERAL_MISSING, EXHAUSTED, HANDSHAKE, HEADING, LENGTH, LIMIT, MORE, NAME, NAME_TAKEN, NOT_DONE, NOT_DUE, NOT_YOUR_TURN, OK, OLD, ONE_WAY, OVERLAP, PATTERN, PRE_MESSAGE, PSK_COUNT, PSK_PLACE, RECEIVER, RECEIVING_CIPHER, REMOTE_MISSING, REMOTE_UNEXPECTED, REPEATED, RESERVED, ROOM, RULE, SENDER, SENDING_CIPHER, SHORT, STATIC_MISSING, STREAM_RECEIVER, STREAM_SENDER, STRUCT, TAG, TOKEN, TOO_LONG, TURN, WANTED, WANTED_PSK, WINDOW}

-- what a call returns
pub record CodesAreNumbered : Type 0 where
  pub begins : (OK ∷ NAME ∷ PATTERN ∷ []) ≡ (0 ∷ 1 ∷ 2 ∷ [])
  pub setup : (EPHEMERAL_MISSING ∷ STATIC_MISSING ∷ REMOTE_MISSING ∷ REMOTE_UNEXPECTED ∷ PSK_COUNT ∷ [])
      ≡ (4 ∷ 5 ∷ 6 ∷ 7 ∷ 8 ∷ [])
  pub turns : (NOT_YOUR_TURN ∷ TOO_LONG ∷ DONE ∷ ENDED ∷ []) ≡ (10 ∷ 11 ∷ 12 ∷ 13 ∷ [])
  pub refused : (AGREEMENT ∷ SHORT ∷ TAG ∷ EXHAUSTED ∷ ROOM ∷ NOT_DONE ∷ []) ≡ (14 ∷ 15 ∷ 16 ∷ 17 ∷ 18 ∷ 19 ∷ [])
  pub wanted : (WANTED ∷ WANTED_PSK ∷ NOT_DUE ∷ []) ≡ (20 ∷ 40 ∷ 29 ∷ [])
  pub structs : (ONE_WAY ∷ STRUCT ∷ LENGTH ∷ []) ≡ (22 ∷ 23 ∷ 24 ∷ [])
  pub datagrams : (WINDOW ∷ RESERVED ∷ OLD ∷ REPEATED ∷ []) ≡ (25 ∷ 26 ∷ 27 ∷ 28 ∷ [])
  pub lines : (HEADING ∷ ARROW ∷ TOKEN ∷ PRE_MESSAGE ∷ TURN ∷ PSK_PLACE ∷ []) ≡ (30 ∷ 31 ∷ 32 ∷ 33 ∷ 34 ∷ 35 ∷ [])
  pub texts : (NAME_TAKEN ∷ LIMIT ∷ ENDING ∷ RULE ∷ []) ≡ (36 ∷ 37 ∷ 38 ∷ 39 ∷ [])
  pub streams : (END ∷ MORE ∷ CLOSED ∷ CUT ∷ []) ≡ (41 ∷ 42 ∷ 43 ∷ 44 ∷ [])
  pub buffers : OVERLAP ≡ 45

-- the kind of a struct in the second byte, and the version of its layout in the first
pub record MarksAreNumbered : Type 0 where
  pub handshake : HANDSHAKE ≡ 0x4e6f0101
  pub halves : (SENDER ∷ RECEIVER ∷ []) ≡ (0x4e6f0301 ∷ 0x4e6f0401 ∷ [])
  pub datagrams : (DATAGRAM_SENDER ∷ DATAGRAM_RECEIVER ∷ []) ≡ (0x4e6f0601 ∷ 0x4e6f0701 ∷ [])
  pub ciphers : (SENDING_CIPHER ∷ RECEIVING_CIPHER ∷ []) ≡ (0x4e6f0801 ∷ 0x4e6f0901 ∷ [])
  pub streams : (STREAM_SENDER ∷ STREAM_RECEIVER ∷ []) ≡ (0x4e6f0a01 ∷ 0x4e6f0b01 ∷ [])

abbrev pub marks : List ℕ
marks = HANDSHAKE ∷ SENDER ∷ RECEIVER ∷ DATAGRAM_SENDER ∷ DATAGRAM_RECEIVER ∷ SENDING_CIPHER ∷ RECEIVING_CIPHER
    ∷ STREAM_SENDER ∷ STREAM_RECEIVER ∷ []
