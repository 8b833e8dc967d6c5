-- Runs over a world: what a crash at any moment since their start may leave.
use Rattle.std.proofs.Common.{◌≡◌, ◌∙◌, inl, inr, ℕ, ◌≤◌, List, ◌++◌, length, take, sym, subst, arith, ⊎_elim}
use Rattle.std.proofs.Math.Nat.{le_refl}
use Rattle.pst_outside.specs.World.{Image, World, SameDisk}
use Rattle.pst_outside.specs.Calls.{Elapses, Follows, LeavesOnly, Settled, Untouched, StaysButSaid, SaysSome}

-- a world that a crash can leave something of tells what it holds
pub tells_now : (world : World) (c : Image) → world.may_leave c → world.tells
tells_now world c left = world.told world.moment c (world.counts_now world.moment c (le_refl world.moment) left)

-- what a crash may leave after a run has P
pub at_end : {old new : World} {P : Image → Type 0} → LeavesOnly old new P → (c : Image) → new.may_leave c → P c
at_end {old} {new} so_far c left = so_far.each c (new.counts_now old.moment c so_far.later left)

-- before the first call
pub started : (old : World) (P : Image → Type 0) → (old.tells → P old.here) → ((c : Image) → old.may_leave c → P c) → LeavesOnly old old P
started old P here now = record {
  later = le_refl old.moment;
  each = λ c left. now c (old.only_now c left);
  here = here;
  before = λ t c le left. inl left;
}

-- one call more, after which the world has P, and so has what a crash may leave
pub goes_on : {old mid new : World} {P : Image → Type 0} → LeavesOnly old mid P → Elapses mid new → (new.tells → P new.here) → ((c : Image) → new.may_leave c → P c) → LeavesOnly old new P
goes_on {old} {mid} {new} {P} so_far time here now = record {
  later = omega (arith, so_far.later, time.later);
  each = λ c left. ⊎_elim (so_far.each c) (now c) (time.nothing_else old.moment c so_far.later left);
  here = here;
  before = λ t c le left. ⊎_elim (so_far.before t c le) (λ k. inr (now c k)) (time.nothing_else t c (omega (arith, le, so_far.later)) left);
}

-- a run that goes on from where another ends
pub joined : {old mid new : World} {P : Image → Type 0} → LeavesOnly old mid P → LeavesOnly mid new P → LeavesOnly old new P
joined {old} {mid} {new} {P} first then = record {
  later = omega (arith, first.later, then.later);
  each = λ c left. ⊎_elim (first.each c) (λ p. p) (then.before old.moment c first.later left);
  here = then.here;
  before = λ t c le left. ⊎_elim (first.before t c le) inr (then.before t c (omega (arith, le, first.later)) left);
}

-- what follows from P holds too, and a world that leaves anything tells what it holds
pub weaker : {old new : World} {P : Image → Type 0} (Q : Image → Type 0) → LeavesOnly old new P → ((c : Image) → new.tells → P c → Q c) → LeavesOnly old new Q
weaker {old} {new} {P} Q run follows = record {
  later = run.later;
  each = λ c left. follows c (new.told old.moment c left) (run.each c left);
  here = λ told. follows new.here told (run.here told);
  before = λ t c le left. ⊎_elim inl (λ p. inr (follows c (new.told t c left) p)) (run.before t c le left);
}

-- a run that goes on with another, each of whose outcomes has P
pub continues : {old mid new : World} {P Q : Image → Type 0} → LeavesOnly old mid P → LeavesOnly mid new Q → ((c : Image) → new.tells → Q c → P c) → LeavesOnly old new P
continues {old} {mid} {new} {P} {Q} first then follows = joined first (weaker P then follows)

-- a call that changes nothing leaves what the world holds, where nothing was pending
pub quiet : {old new : World} (P : Image → Type 0) → Settled old → Untouched old new → (old.tells → P old.here) → LeavesOnly old new P
quiet {old} {new} P settled same here =
    let now : (c : Image) → old.may_leave c → P c = λ c left. subst P (sym (settled c left)) (here (tells_now old c left)) in
    goes_on (started old P here now) same.time (λ told. subst P (sym (same.stays.here told)) (here (same.stays.told told))) (λ c left. now c (same.crash c left))

-- and nothing is pending after it
pub stays_settled : {old new : World} → Settled old → Untouched old new → Settled new
stays_settled {old} {new} settled same c left = settled c (same.crash c left) ∙ sym (same.stays.here (tells_now new c left))

pub same_disk : {a b c : Image} → SameDisk a b → SameDisk b c → SameDisk a c
same_disk first then = record { main = then.main ∙ first.main; side = then.side ∙ first.side; copy = then.copy ∙ first.copy }

pub still_says : {a b c : World} → StaysButSaid a b → StaysButSaid b c → StaysButSaid a c
still_says first then = record {
  written = then.written ∙ first.written;
  told = λ told. first.told (then.told told);
  here = λ told. same_disk (first.here (then.told told)) (then.here told);
  input = λ told. then.input told ∙ first.input (then.told told);
}

-- one more say of a text
pub says_on : {old mid new : World} {text : List ℕ} → LeavesOnly old mid (SaysSome old text) → StaysButSaid mid new → Follows SameDisk mid new → Elapses mid new
    → (k : ℕ) → k ≤ length text → (new.tells → new.here.said ≡ old.here.said ++ take k text) → LeavesOnly old new (SaysSome old text)
says_on {old} {mid} {new} {text} run stays follows time k within said =
    goes_on run time
    (λ told.
    let before : SaysSome old text mid.here = run.here (stays.told told) in
    record { from = before.from; was = before.was; disk = same_disk before.disk (stays.here told); so_far = k; within = within; said = said told })
    (λ c left.
    let earlier : (d : Image) × mid.may_leave d × SameDisk d c = follows c left in
    let before : SaysSome old text earlier.0 = at_end run earlier.0 earlier.1 in
    record { from = before.from; was = before.was; disk = same_disk before.disk earlier.2; so_far = k; within = within; said = new.said c left ∙ said (tells_now new c left) })

-- where nothing was pending, the disk is as it was
pub says_settled : {old : World} {text : List ℕ} {c : Image} → Settled old → SaysSome old text c → SameDisk old.here c
says_settled {old} {text} {c} settled some =
    let same : some.from ≡ old.here = ⊎_elim (settled some.from) (λ e. e) some.was in
    subst (λ d. SameDisk d c) same some.disk
