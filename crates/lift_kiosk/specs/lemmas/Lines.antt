-- A line that grows by a byte.
use Rattle.std.proofs.Common.{◌≡◌, ◌≢◌, ℕ, ◌<◌, ◌≤◌, Bool, true, false, List, [], ◌∷◌, ◌++◌, length}
use Rattle.std.proofs.Common.{sym, ap, ◌∙◌, append_assoc, arith}
use Rattle.std.proofs.lemmas.List.{length_push, length-take}
use Rattle.std.specs.Prelude.{◌-◌, ◌==◌}
use Rattle.std.proofs.lemmas.List.{take_all, take-append-le}
use Rattle.std.proofs.lemmas.Bool.Decides.{nat_tests}
use Rattle.std.proofs.KnownBytes.{Consumes-trans}
use Rattle.lift_kiosk.specs.Lines.{Source, GivesBytes, GivesLine, GivesPart, HasNoFeed, Buffers65}

pub gives_more : (bytes : List ℕ) (byte : ℕ) (before mid after : Source)
    → GivesBytes bytes before mid
    → GivesBytes (byte ∷ []) mid after → GivesBytes (bytes ++ byte ∷ []) before after
gives_more bytes byte before mid after so_far one = record {
  calls = omega (arith, so_far.calls, one.calls, length_push bytes byte);
  failures = one.failures ∙ so_far.failures;
  ends = one.ends ∙ so_far.ends;
  failed = one.failed ∙ so_far.failed;
  ended = one.ended ∙ so_far.ended;
  came = one.came ∙ ap (λ (c : List ℕ). c ++ byte ∷ []) so_far.came
      ∙ append_assoc before.came bytes (byte ∷ []);
  left = Consumes-trans before.left mid.left after.left bytes (byte ∷ []) so_far.left one.left;
}

pub no_feed_more : (bytes : List ℕ) (byte : ℕ) → HasNoFeed bytes → byte ≢ 10
    → HasNoFeed (bytes ++ byte ∷ [])
no_feed_more [] byte none here = (here, tt)
no_feed_more (b ∷ bytes) byte none here = (none.0, no_feed_more bytes byte none.1 here)

pub part_more : (part : List ℕ) (byte : ℕ) (before mid after : Source) → GivesPart part before mid
    → GivesBytes (byte ∷ []) mid after → byte ≢ 10 → GivesPart (part ++ byte ∷ []) before after
part_more part byte before mid after so_far one here = record {
  whole = no_feed_more part byte so_far.whole here;
  bytes = gives_more part byte before mid after so_far.bytes one;
}

pub part_ends : (part : List ℕ) (byte : ℕ) (before mid after : Source) → GivesPart part before mid
    → GivesBytes (byte ∷ []) mid after → byte ≡ 10 → GivesLine part before after
part_ends part byte before mid after so_far one feed = record {
  whole = so_far.whole;
  bytes = let more = gives_more part byte before mid after so_far.bytes one in rw feed at more;
}

pub keeps_no_more : (line kept : List ℕ) (byte : ℕ) (longer : Bool) → length kept ≡ 65
    → Buffers65 line kept longer → Buffers65 (line ++ byte ∷ []) kept true
keeps_no_more line kept byte longer full so_far =
    let long : 65 ≤ length line =
    (let at = ap length so_far.front in omega (arith, at, full, length-take 65 line)) in
    record {
      front = so_far.front ∙ sym (take-append-le 65 line (byte ∷ []) long);
      more = grind (arith, nat_tests, length_push line byte, long);
    }

pub keeps_one_more : (line kept new : List ℕ) (byte : ℕ) (longer : Bool) → length kept < 65
    → new ≡ kept ++ byte ∷ [] → Buffers65 line kept longer → Buffers65 (line ++ byte ∷ []) new longer
keeps_one_more line kept new byte longer room grown so_far =
    let short : length line < 65 =
    (let at = ap length so_far.front in omega (arith, at, room, length-take 65 line)) in
    let some : length line ≤ 65 = omega (arith, short) in
    let more : length (line ++ byte ∷ []) ≤ 65 = omega (arith, short, length_push line byte) in
    let whole : kept ≡ line = so_far.front ∙ take_all 65 line some in
    record {
      front = grown ∙ ap (λ (k : List ℕ).
          k ++ byte ∷ []) whole ∙ sym (take_all 65 (line ++ byte ∷ []) more);
      more = so_far.more ∙ grind (arith, nat_tests, length_push line byte, short);
    }

-- of a line that is kept whole, nothing is missing
pub kept_whole : (line kept : List ℕ) → Buffers65 line kept false → kept ≡ line
kept_whole line kept keeps =
    let few : length line ≤ 65 = (let more = keeps.more in grind (arith, nat_tests)) in
    keeps.front ∙ take_all 65 line few
