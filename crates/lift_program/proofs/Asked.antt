-- What words come to.
use Rattle.std.proofs.Common.{ℕ, Option, List, sym, subst}
use Rattle.std.specs.Prelude.{Result, Ok, Err}
use Rattle.clap.specs.Words.{Text}
use Rattle.lift_disk.specs.Disk.{Image, LeavesNow, MayLeave}
use Rattle.lift_disk.specs.lemmas.Moments.{leaves_weaker}
use Rattle.lift_disk.specs.lemmas.Starts.{leaves_from, same_leaves, starts_keep, starts_keep_now}
use Rattle.lift_journal.specs.lemmas.Chains.{all_same}
use Rattle.lift_clerk.specs.Keeping.{KeepsPrefix}
use Rattle.lift_policy.specs.declared.dispatching.Dispatching.{Dispatching}
use Rattle.lift_policy.specs.declared.policies.Shipped.{Shipped}
use Rattle.lift_parts.specs.Allocator.{AllocatorState}
use Rattle.lift_parts.specs.Flusher.{FlusherState}
use Rattle.lift_serve.specs.Open.{EndedState}
use Rattle.lift_serve.specs.lemmas.Opened.{keeps_over}
use Rattle.lift_program.specs.Ends.{EndOver, IsEndFor, IsEndOf, KeepsFor, KeepsIfServed}
use Rattle.lift_program.specs.Serving.{HasLeftLetters, IsReadyOver, IsServedOver, IsServing}
use Rattle.lift_program.specs.Stages.{IsLeftAs}
use Rattle.lift_program.specs.declared.fault.Fault.{Fault}
use Rattle.lift_program.specs.declared.leftover.Failure.{Failure}
use Rattle.lift_program.specs.declared.leftover.Failure.TheVariants.{NoBuilding, NoImage, Opened}
use Rattle.lift_program.specs.declared.serve.Serving.{Serving}
use Rattle.lift_program.specs.declared.words.Request.TheVariants.{Replay, Format, Show, Serve}
use Rattle.lift_program.specs.Images.{CommandFiles}
use Rattle.lift_program.specs.declared.end.End.TheVariants.{Replayed, Formatted, Shown, Served, OtherWords, NoWords}
use Rattle.lift_program.specs.declared.words.Request.{Request}

-- what was ready was served
pub served_end : (files : CommandFiles) (image building : List ℕ) (port sessions : ℕ) (policy : Dispatching Shipped)
    (a : AllocatorState (Dispatching Shipped)) (f : FlusherState files.image.Served) (terms : EndedState) (serving : Serving files.image.Served)
    → IsReadyOver files image building port policy sessions a f terms → IsServedOver files.image.served_state a f terms serving → IsServing files image building port policy sessions serving
served_end files image building port sessions policy a f terms serving ready served = record {
  a = a;
  f = f;
  terms = terms;
  ready = ready;
  served = served;
  keeps = λ honest base accepted given holds.
      let from = ready.from in
      let is = ready.is_kept in
      let stays = files.image.stays image from.opened from.fresh honest in
      keeps_over files.image.served_state files.image.held from.plan from.opened ready.keeper is.recovers is.starts is.whole is.no_doubt is.own (files.image.found image from.opened from.fresh) honest stays.0 stays.1 base accepted given holds
      policy a f served.g ready.group served.keeps;
}

-- a group that wasn't served has left its letters
left_letters : (files : CommandFiles) (image building : List ℕ) (fault : Fault) (left : files.image.Served) → IsLeftAs files building (files.image.is_to_be_served image) files.image.served_state fault left → HasLeftLetters files image building fault left
left_letters files image building fault left is =
    let from = is.from in
    let old = files.image.held (files.image.found image from.opened from.fresh) in
    let opened = files.image.served_state from.opened in
    let new = files.image.served_state left in
    let keeps : (honest : old.is_honest) (P : Image → Type 0) → LeavesNow old P → LeavesNow opened P =
    λ honest P holds. same_leaves old opened P honest (files.image.stays image from.opened from.fresh honest).1 holds in
    record {
      is_left = is;
      cut = λ honest base accepted given holds after.
          let P = KeepsPrefix files.image.Served from.plan base accepted given in
          let stays = files.image.stays image from.opened from.fresh honest in
          starts_keep old new (files.image.held after) P honest
          (leaves_from old opened new P honest stays.0 stays.1
          (leaves_weaker opened new (MayLeave opened) P (λ was found may. keeps honest P holds was found may) is.moments));
      next = λ recovered honest base accepted given holds after.
          let P = KeepsPrefix files.image.Served from.plan base accepted given in
          let was = (files.image.stays image from.opened from.fresh honest).0 in
          let reopens = recovered.4 in
          starts_keep_now new (files.image.held after) P (is.moments.honest.1 was)
          (λ same found may.
          subst P (sym (all_same new.is_loose new.image found (reopens.synced was).none_loose may))
          (keeps honest P holds was new.image (reopens.seen was)));
    }

-- and one that was has kept them
kept_for : (files : CommandFiles) (before after : Option (List ℕ)) (request : Request) (outcome : Result (Serving files.image.Served) (Failure files.image.Served files.image.File files.image.Opener))
    → IsEndFor files request before after (Served outcome) → KeepsFor files request outcome
kept_for files before after Replay outcome never = absurd never
kept_for files before after (Format image building half) outcome never = absurd never
kept_for files before after (Show image building) outcome never = absurd never
kept_for files before after (Serve image building port sessions policy) (Ok serving) is = is.0.1
kept_for files before after (Serve image building port sessions policy) (Err (NoBuilding fault unused)) is = tt
kept_for files before after (Serve image building port sessions policy) (Err (NoImage fault cause)) is = tt
kept_for files before after (Serve image building port sessions policy) (Err (Opened fault left)) is =
    left_letters files image.now building.now fault left is.1

pub end_keeps : (files : CommandFiles) (words : List Text) (before after : Option (List ℕ)) (end : EndOver files) → IsEndOf files words before after end → KeepsIfServed files words end
end_keeps files words before after (Replayed outcome unused) is = tt
end_keeps files words before after (Formatted outcome) is = tt
end_keeps files words before after (Shown outcome) is = tt
end_keeps files words before after (Served outcome) (request, asks, is) = (request, asks, kept_for files before after request outcome is)
end_keeps files words before after (OtherWords unused) is = tt
end_keeps files words before after (NoWords no_memory unused) is = tt
