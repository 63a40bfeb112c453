-- A word reads as what it was spelled of.
use Rattle.std.proofs.Common.{◌≡◌, ℕ, ◌+◌, ◌*◌, ◌/◌, ◌%◌, ◌^◌, ◌<◌, false, refl, ap, ◌∙◌, arith}
use Rattle.std.specs.Prelude.{Option, Some, None, ◌==◌}
use Rattle.std.proofs.lemmas.Bool.Decides.{nat_tests}
use Rattle.lift_base.specs.declared.travel.Dir.{Dir}
use Rattle.lift_base.specs.declared.travel.Dir.TheVariants.{Up, Down}
use Rattle.lift_base.specs.declared.travel.Stop.{Stop as StopAt}
use Rattle.lift_base.specs.declared.command.Body.{Body}
use Rattle.lift_base.specs.declared.command.Body.TheVariants.{Call, Stop, Place}
use Rattle.lift_base.specs.declared.command.Reason.{Reason}
use Rattle.lift_base.specs.declared.command.Reason.TheVariants.{NoSuchFloor, SameFloor, NoCar, OldNumber, GapNumber, OtherBody, WrongKind, Full, NotServed}
use Rattle.lift_base.specs.declared.command.Reply.{Reply}
use Rattle.lift_base.specs.declared.command.Reply.TheVariants.{Car, Stopped, Placed, Refused, Unknown}
use Rattle.lift_base.specs.Command.{reason_number}
use Rattle.lift_desk.specs.Words.{dir_bit, body_bits, ask_word, stop_bits, reply_bits, reply_word}
use Rattle.lift_desk.specs.Words.{IsBodyInRange, IsNextStop, IsReply, dir_by_bit, body_of, ask_of}
use Rattle.lift_desk.specs.Words.{stop_by_bits, reason_of, reply_by, reply_of}

dir_bit_small : (dir : Dir) → dir_bit dir < 2
dir_bit_small Up = omega arith
dir_bit_small Down = omega arith

pub dir_of_bit : (dir : Dir) → dir_by_bit (dir_bit dir) ≡ dir
dir_of_bit Up = refl
dir_of_bit Down = refl

-- the low bits of a word with a turn and a number
low : (turn number bits : ℕ) → bits < 2 ^ 20 → (turn * 2 ^ 44 + number * 2 ^ 20 + bits) % 2 ^ 20 ≡ bits
low turn number bits small = omega arith

middle : (turn number bits : ℕ) → number < 2 ^ 24 → bits < 2 ^ 20 → (turn * 2 ^ 44 + number * 2 ^ 20 + bits) / 2 ^ 20 % 2 ^ 24 ≡ number
middle turn number bits few small = omega arith

read_call : (bits floor party : ℕ) → bits / 2 ^ 18 ≡ 1 → bits % 64 ≡ floor → bits / 128 % 16 ≡ party → body_of bits ≡ Call floor party
read_call bits floor party kind at persons = rw (kind, at, persons) refl

read_stop_ask : (bits floor : ℕ) (dir : Dir) → bits / 2 ^ 18 ≡ 2 → bits % 64 ≡ floor → bits / 64 % 2 ≡ dir_bit dir → body_of bits ≡ Stop floor dir
read_stop_ask bits floor dir kind at way = rw (kind, at, way, dir_of_bit dir) refl

read_place : (bits floor : ℕ) (dir : Dir) → bits / 2 ^ 18 ≡ 3 → bits % 64 ≡ floor → bits / 64 % 2 ≡ dir_bit dir → body_of bits ≡ Place floor dir
read_place bits floor dir kind at way = rw (kind, at, way, dir_of_bit dir) refl

pub body_small : (body : Body) → IsBodyInRange body → body_bits body < 2 ^ 20
body_small (Call floor party) range = omega arith
body_small (Stop floor dir) range = omega (arith, dir_bit_small dir)
body_small (Place floor dir) range = omega (arith, dir_bit_small dir)

body_back : (body : Body) → IsBodyInRange body → body_of (body_bits body) ≡ body
body_back (Call floor party) range = read_call (body_bits (Call floor party)) floor party (omega arith) (omega arith) (omega arith)
body_back (Stop floor dir) range =
    read_stop_ask (body_bits (Stop floor dir)) floor dir (omega (arith, dir_bit_small dir)) (omega (arith, dir_bit_small dir)) (omega (arith, dir_bit_small dir))
body_back (Place floor dir) range =
    read_place (body_bits (Place floor dir)) floor dir (omega (arith, dir_bit_small dir)) (omega (arith, dir_bit_small dir)) (omega (arith, dir_bit_small dir))

-- an ask's word reads as that ask
pub ask_back : (turn number : ℕ) (body : Body) → number < 2 ^ 24 → IsBodyInRange body → ask_of (ask_word turn number body) ≡ record { number = number; body = body }
ask_back turn number body few range =
    let small = body_small body range in
    let n = middle turn number (body_bits body) few small in
    let b = ap body_of (low turn number (body_bits body) small) ∙ body_back body range in
    cc

reason_back : (reason : Reason) → reason_of (reason_number reason) ≡ reason
reason_back NoSuchFloor = refl
reason_back SameFloor = refl
reason_back NoCar = refl
reason_back OldNumber = refl
reason_back GapNumber = refl
reason_back OtherBody = refl
reason_back WrongKind = refl
reason_back Full = refl
reason_back NotServed = refl

pub reason_small : (reason : Reason) → reason_number reason < 2 ^ 12
reason_small NoSuchFloor = omega arith
reason_small SameFloor = omega arith
reason_small NoCar = omega arith
reason_small OldNumber = omega arith
reason_small GapNumber = omega arith
reason_small OtherBody = omega arith
reason_small WrongKind = omega arith
reason_small Full = omega arith
reason_small NotServed = omega arith

pub next_small : (next : Option StopAt) → IsNextStop next → stop_bits next < 2 ^ 12
next_small None range = omega arith
next_small (Some stop) range = omega (arith, dir_bit_small stop.dir)

read_next : (bits floor : ℕ) (dir : Dir) → bits == 0 ≡ false → bits % 64 ≡ floor → bits / 64 % 2 ≡ dir_bit dir → stop_by_bits bits ≡ Some (record { floor = floor; dir = dir })
read_next bits floor dir some at way = rw (some, at, way, dir_of_bit dir) refl

next_back : (next : Option StopAt) → IsNextStop next → stop_by_bits (stop_bits next) ≡ next
next_back None range = refl
next_back (Some stop) range =
    read_next (stop_bits (Some stop)) stop.floor stop.dir (grind (arith, nat_tests)) (omega (arith, dir_bit_small stop.dir)) (omega (arith, dir_bit_small stop.dir))

-- the code and the argument of an answer
record IsCoded (reply : Reply) (code argument : ℕ) : Type 0 where
  pub bits : reply_bits reply ≡ code * 2 ^ 12 + argument
  pub short : code < 2 ^ 8
  pub small : argument < 2 ^ 12
  pub back : reply_by code argument ≡ reply

coded : (reply : Reply) → IsReply reply → (code : ℕ) × (argument : ℕ) × IsCoded reply code argument
coded (Car car) range = (1, car, record { bits = refl; short = omega arith; small = omega arith; back = refl })
coded (Stopped next) range = (2, stop_bits next, record { bits = refl; short = omega arith; small = next_small next range; back = ap Stopped (next_back next range) })
coded (Placed next) range = (3, stop_bits next, record { bits = refl; short = omega arith; small = next_small next range; back = ap Placed (next_back next range) })
coded (Refused reason) range = (4, reason_number reason, record { bits = refl; short = omega arith; small = reason_small reason; back = ap Refused (reason_back reason) })
coded Unknown range = (5, 0, record { bits = refl; short = omega arith; small = omega arith; back = refl })

code_of : (turn number code argument : ℕ) → code < 2 ^ 8 → argument < 2 ^ 12 → (turn * 2 ^ 44 + number * 2 ^ 20 + (code * 2 ^ 12 + argument)) % 2 ^ 20 / 2 ^ 12 ≡ code
code_of turn number code argument short small = omega arith

argument_of : (turn number code argument : ℕ) → code < 2 ^ 8 → argument < 2 ^ 12 → (turn * 2 ^ 44 + number * 2 ^ 20 + (code * 2 ^ 12 + argument)) % 2 ^ 12 ≡ argument
argument_of turn number code argument short small = omega arith

-- an answer's word reads as that answer
pub reply_back : (turn number : ℕ) (reply : Reply) → IsReply reply → reply_of (reply_word turn number reply) ≡ reply
reply_back turn number reply range =
    let c = coded reply range in
    let word : reply_word turn number reply ≡ turn * 2 ^ 44 + number * 2 ^ 20 + (c.0 * 2 ^ 12 + c.1) = ap (λ (bits : ℕ). turn * 2 ^ 44 + number * 2 ^ 20 + bits) c.2.bits in
    ap reply_of word ∙ ap (λ (code : ℕ). reply_by code ((turn * 2 ^ 44 + number * 2 ^ 20 + (c.0 * 2 ^ 12 + c.1)) % 2 ^ 12)) (code_of turn number c.0 c.1 c.2.short c.2.small)
    ∙ ap (λ (argument : ℕ). reply_by c.0 argument) (argument_of turn number c.0 c.1 c.2.short c.2.small) ∙ c.2.back
