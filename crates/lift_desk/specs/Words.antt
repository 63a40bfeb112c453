-- A word of the desk: 20 bits of turn, 24 bits of number, and 20 bits that spell an ask or an
-- answer.
use Rattle.std.specs.Prelude.{◌≡◌, ℕ, ◌+◌, ◌*◌, ◌/◌, ◌%◌, ◌^◌, ◌<◌, ◌≤◌, List, [], ◌∷◌, Option}
use Rattle.std.specs.Prelude.{Some, None, IfSome, ◌==◌, if◌then◌else◌}
use Rattle.lift_base.specs.declared.limits.TheConstants.{MOST_CARS, MOST_FLOORS}
use Rattle.lift_base.specs.declared.travel.Dir.{Dir}
use Rattle.lift_base.specs.declared.travel.Dir.TheVariants.{Up, Down}
use Rattle.lift_base.specs.declared.travel.Stop.{Stop as StopAt}
use Rattle.lift_base.specs.declared.command.Body.{Body}
use Rattle.lift_base.specs.declared.command.Body.TheVariants.{Call, Stop, Place}
use Rattle.lift_base.specs.declared.command.Reason.{Reason}
use Rattle.lift_base.specs.declared.command.Reason.TheVariants.{NoSuchFloor, SameFloor, NoCar}
use Rattle.lift_base.specs.declared.command.Reason.TheVariants.{OldNumber, GapNumber, OtherBody}
use Rattle.lift_base.specs.declared.command.Reason.TheVariants.{WrongKind, Full, NotServed}
use Rattle.lift_base.specs.declared.command.Reply.{Reply}
use Rattle.lift_base.specs.declared.command.Reply.TheVariants.{Car, Stopped, Placed, Refused}
use Rattle.lift_base.specs.declared.command.Reply.TheVariants.{Unknown}
use Rattle.lift_base.specs.Command.{reason_number}
use Rattle.lift_desk.specs.declared.words.Ask.{Ask}

-- the turn in bits 63 to 44
abbrev pub turn_of : ℕ → ℕ
turn_of word = word / 2 ^ 44

-- the number in bits 43 to 20
abbrev pub number_of : ℕ → ℕ
number_of word = word / 2 ^ 20 % 2 ^ 24

-- the direction's bit
abbrev pub dir_bit : Dir → ℕ
dir_bit Up = 0
dir_bit Down = 1

-- the kind in bits 19 and 18, a call's party in bits 10 to 7, else the direction in bit 6, the
-- floor in bits 5 to 0
abbrev pub body_bits : Body → ℕ
body_bits (Call floor party) = 1 * 2 ^ 18 + party * 2 ^ 7 + floor
body_bits (Stop floor dir) = 2 * 2 ^ 18 + dir_bit dir * 2 ^ 6 + floor
body_bits (Place floor dir) = 3 * 2 ^ 18 + dir_bit dir * 2 ^ 6 + floor

abbrev pub ask_word : ℕ → ℕ → Body → ℕ
ask_word turn number body = turn * 2 ^ 44 + number * 2 ^ 20 + body_bits body

-- bit 7 for a stop, its direction in bit 6, its floor in bits 5 to 0
abbrev pub stop_bits : Option StopAt → ℕ
stop_bits None = 0
stop_bits (Some stop) = 2 ^ 7 + dir_bit stop.dir * 2 ^ 6 + stop.floor

-- the code in bits 19 to 12, its argument in bits 11 to 0
abbrev pub reply_bits : Reply → ℕ
reply_bits (Car car) = 1 * 2 ^ 12 + car
reply_bits (Stopped next) = 2 * 2 ^ 12 + stop_bits next
reply_bits (Placed next) = 3 * 2 ^ 12 + stop_bits next
reply_bits (Refused reason) = 4 * 2 ^ 12 + reason_number reason
reply_bits Unknown = 5 * 2 ^ 12

abbrev pub reply_word : ℕ → ℕ → Reply → ℕ
reply_word turn number reply = turn * 2 ^ 44 + number * 2 ^ 20 + reply_bits reply

-- What a word spells: the spellings above read back. Of other words they mean nothing.
abbrev pub dir_by_bit : ℕ → Dir
dir_by_bit bit = if bit == 0 then Up else Down

-- the command that these bits spell
abbrev pub body_of : ℕ → Body
body_of bits =
    if bits / 2 ^ 18 == 1 then Call (bits % 64) (bits / 128 % 16)
    else (if bits / 2 ^ 18 == 2 then Stop (bits % 64) (dir_by_bit (bits / 64 % 2)) else Place
    (bits % 64) (dir_by_bit (bits / 64 % 2)))

-- the ask that a word spells
abbrev pub ask_of : ℕ → Ask
ask_of word = record { number = number_of word; body = body_of (word % 2 ^ 20) }

abbrev pub stop_by_bits : ℕ → Option StopAt
stop_by_bits bits = if bits == 0 then None else Some (record {
  floor = bits % 64;
  dir = dir_by_bit (bits / 64 % 2);
})

-- the reason that a number names
abbrev pub reason_of : ℕ → Reason
reason_of number =
    if number == 1 then NoSuchFloor
    else (if number == 2 then SameFloor
    else (if number == 3 then NoCar
    else (if number == 4 then OldNumber
    else (if number == 5 then GapNumber
    else (if number == 6 then OtherBody
    else (if number == 7 then WrongKind
    else (if number == 8 then Full
    else NotServed)))))))

-- the answer of this code and argument
abbrev pub reply_by : (code argument : ℕ) → Reply
reply_by code argument =
    if code == 1 then Car argument
    else (if code == 2 then Stopped (stop_by_bits argument)
    else (if code == 3 then Placed (stop_by_bits argument)
    else (if code == 4 then Refused (reason_of argument)
    else Unknown)))

-- the answer that a word spells
abbrev pub reply_of : ℕ → Reply
reply_of word = reply_by (word % 2 ^ 20 / 2 ^ 12) (word % 2 ^ 12)

-- a turn, counted from 1, and a number that fit a word
pub record FitsWord (turn number : ℕ) : Type 0 where
  pub first : 1 ≤ turn
  pub last : turn < 2 ^ 20
  pub number_range : number < 2 ^ 24

-- the floor and the party that a body names are a floor and a party
abbrev pub IsBodyInRange : Body → Type 0
IsBodyInRange (Call floor party) = (floor < MOST_FLOORS) × (1 ≤ party) × (party ≤ 15)
IsBodyInRange (Stop floor dir) = floor < MOST_FLOORS
IsBodyInRange (Place floor dir) = floor < MOST_FLOORS

abbrev pub IsNextStop : Option StopAt → Type 0
IsNextStop None = Unit {0}
IsNextStop (Some stop) = stop.floor < MOST_FLOORS

-- the car and the floor that a reply names are a car and a floor
abbrev pub IsReply : Reply → Type 0
IsReply (Car car) = car < MOST_CARS
IsReply (Stopped next) = IsNextStop next
IsReply (Placed next) = IsNextStop next
IsReply (Refused reason) = Unit {0}
IsReply Unknown = Unit {0}

-- Reading undoes a spelling: what these bits spell is read, and what is read is what they spell.
pub record ReadsBack {T : Type 0} (in_range : T → Type 0) (spelling : T → ℕ) (bits : ℕ)
    (result : Option T) : Type 0 where
  pub known : (value : T) → in_range value → bits ≡ spelling value → result ≡ Some value
  pub spelled : IfSome result (λ value. (bits ≡ spelling value) × in_range value)

-- the word spells an ask
pub record IsAskWord (word : ℕ) : Type 0 where
  pub turn : ℕ
  pub number : ℕ
  pub body : Body
  pub fits : FitsWord turn number
  pub in_range : IsBodyInRange body
  pub spelled : word ≡ ask_word turn number body

-- the word spells an answer
pub record IsReplyWord (word : ℕ) : Type 0 where
  pub turn : ℕ
  pub number : ℕ
  pub reply : Reply
  pub fits : FitsWord turn number
  pub in_range : IsReply reply
  pub spelled : word ≡ reply_word turn number reply

-- a word that is this spelling, which is spelled as it should be, of this turn and this number
pub record IsWordOf (IsSpelled : ℕ → Type 0) (of_turn of_number spelling word : ℕ) : Type 0 where
  pub is : word ≡ spelling
  pub spelled : IsSpelled word
  pub turn : turn_of word ≡ of_turn
  pub number : number_of word ≡ of_number

-- the last word of these, 0 for none
abbrev pub last_of : List ℕ → ℕ
last_of [] = 0
last_of (x ∷ []) = x
last_of (x ∷ y ∷ ys) = last_of (y ∷ ys)
