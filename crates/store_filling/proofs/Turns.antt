-- Turns, one after another.
use Rattle.std.proofs.Common.{◌≡◌, ◌∙◌, ◌⊎◌, inl, inr, ℕ, ◌+◌, ◌<◌, ◌≤◌, List, [], ◌∷◌, ◌++◌, length, Result, Ok, Err, refl, sym, ap, subst, arith, append_assoc}
use Rattle.std.proofs.lemmas.List.{append-nil}
use Rattle.pst_outside.specs.World.{Image, World}
use Rattle.pst_outside.specs.Calls.{LeavesOnly, Settled}
use Rattle.pst_outside.proofs.Moments.{continues, started, weaker}
use Rattle.command_text.specs.declared.command.Command.{Command}
use Rattle.command_text.specs.declared.reply.Reply.{Reply}
use Rattle.mail_reading.specs.mail_draft.declared.stop.Stop.{Stop}
use Rattle.mail_reading.specs.mail_draft.declared.stop.Stop.TheVariants as stops
use Rattle.mail_searches.specs.Searching.{Searching}
use Rattle.store_session.specs.Disks.{Effects, Medium, SameMedium, medium}
use Rattle.store_session.proofs.Carry.{its_medium}
use Rattle.store_filling.specs.Commands.{fill_command, made_after, nothing_made}
use Rattle.store_filling.specs.Doing.{AllEnd, CommandEnds, FilledTo, StaysAt, StopsSo, StopsWithin, TurnsSo}
use Rattle.store_filling.specs.Filling.{Does, FillTurn, Fills, IsFilled, commands_of, disk_at, made_at, tree_at}
use Rattle.store_filling.specs.declared.commands.Made.{Made}
use Rattle.store_filling.specs.declared.places.FillPlaces.{FillPlaces}

-- ---- where they come to

pub tree_more : (X : Searching) (turns more : List FillTurn) → tree_at X (turns ++ more) ≡ tree_at (tree_at X turns) more
tree_more X [] more = refl
tree_more X (t ∷ ts) more = tree_more t.tree ts more

disk_more : (d : Medium) (turns more : List FillTurn) → disk_at d (turns ++ more) ≡ disk_at (disk_at d turns) more
disk_more d [] more = refl
disk_more d (t ∷ ts) more = disk_more t.disk ts more

count_more : (turns : List FillTurn) (turn : FillTurn) → length (turns ++ turn ∷ []) ≡ length turns + 1
count_more [] turn = refl
count_more (t ∷ ts) turn = omega (arith, count_more ts turn)

made_more : (n m : ℕ) (made : Made) (turns : List FillTurn) (turn : FillTurn) → m ≡ n + length turns → made_at n made (turns ++ turn ∷ []) ≡ made_after m turn.reply (made_at n made turns)
made_more n m made [] turn is = let e : n ≡ m = omega (arith, is) in ap (λ (k : ℕ). made_after k turn.reply made) e
made_more n m made (t ∷ ts) turn is = made_more (n + 1) m (made_after n t.reply made) ts turn (omega (arith, is))

-- ---- runs

-- what is told of a turn is told of it later as well
pub does_still : (effects : Effects) {told also : Type 0} (c : Command) (X : Searching) (d : Medium) (turn : FillTurn) → (also → told) → Does effects told c X d turn → Does effects also c X d turn
does_still effects c X d turn tells is = record { room = is.room; measured = is.measured; coming = is.coming; answers = is.answers; reply = is.reply; tree = is.tree; fits = is.fits; disk = λ a. is.disk (tells a) }

pub fills_still : (effects : Effects) {told also : Type 0} (places : FillPlaces) (seed n : ℕ) (made : Made) (X : Searching) (d : Medium) (turns : List FillTurn) → (also → told) → Fills effects told places seed n made X d turns → Fills effects also places seed n made X d turns
fills_still effects places seed n made X d [] tells is = tt
fills_still effects places seed n made X d (t ∷ ts) tells is = (does_still effects (fill_command places seed n made) X d t tells is.0, fills_still effects places seed (n + 1) (made_after n t.reply made) t.tree t.disk ts tells is.1)

-- one turn more
fills_more : (effects : Effects) (told : Type 0) (places : FillPlaces) (seed n m : ℕ) (made : Made) (X : Searching) (d : Medium) (turns : List FillTurn) (turn : FillTurn) → m ≡ n + length turns → Fills effects told places seed n made X d turns
    → Does effects told (fill_command places seed m (made_at n made turns)) (tree_at X turns) (disk_at d turns) turn → Fills effects told places seed n made X d (turns ++ turn ∷ [])
fills_more effects told places seed n m made X d [] turn is run does =
    let e : m ≡ n = omega (arith, is) in
    (subst (λ (k : ℕ). Does effects told (fill_command places seed k made) X d turn) e does, tt)
fills_more effects told places seed n m made X d (t ∷ ts) turn is run does =
    (run.0, fills_more effects told places seed (n + 1) m (made_after n t.reply made) t.tree t.disk ts turn (omega (arith, is)) run.1 does)

-- ---- what a stop leaves

filled_before : (stands : Image → Searching → Type 0) (first : List ℕ) (X : Searching) (turns more : List FillTurn) (c : Image) → IsFilled stands first X turns c → IsFilled stands first X (turns ++ more) c
filled_before stands first X turns more c is = record { said = is.said; done = is.done; left = is.left ++ more; are = ap (λ l. l ++ more) is.are ∙ append_assoc is.done is.left more; tree = is.tree }

filled_behind : (stands : Image → Searching → Type 0) (first mid : List ℕ) (X : Searching) (turns more : List FillTurn) (c : Image) → mid ≡ first → IsFilled stands mid (tree_at X turns) more c → IsFilled stands first X (turns ++ more) c
filled_behind stands first mid X turns more c e is = record {
  said = is.said ∙ e;
  done = turns ++ is.done;
  left = is.left;
  are = ap (λ l. turns ++ l) is.are ∙ sym (append_assoc turns is.done is.left);
  tree = subst (stands c) (sym (tree_more X turns is.done)) is.tree;
}

-- the moments of turns and of those behind them
pub leaves_then : (stands : Image → Searching → Type 0) {old mid new : World} (X : Searching) (turns more : List FillTurn) → (new.tells → mid.tells) → LeavesOnly old mid (IsFilled stands old.here.said X turns) → LeavesOnly mid new (IsFilled stands mid.here.said (tree_at X turns) more)
    → LeavesOnly old new (IsFilled stands old.here.said X (turns ++ more))
leaves_then stands {old} {mid} {new} X turns more tells first last =
    continues (weaker (IsFilled stands old.here.said X (turns ++ more)) first (λ c t is. filled_before stands old.here.said X turns more c is)) last
    (λ c t is. filled_behind stands old.here.said mid.here.said X turns more c ((first.here (tells t)).said) is)

pub filled_none : (stands : Image → Searching → Type 0) (first : List ℕ) (X : Searching) (turns : List FillTurn) (c : Image) → c.said ≡ first → stands c X → IsFilled stands first X turns c
filled_none stands first X turns c said is = record { said = said; done = []; left = turns; are = refl; tree = is }

pub filled_one : (stands : Image → Searching → Type 0) (first : List ℕ) (X : Searching) (turn : FillTurn) (c : Image) → c.said ≡ first → stands c turn.tree → IsFilled stands first X (turn ∷ []) c
filled_one stands first X turn c said is = record { said = said; done = turn ∷ []; left = []; are = refl; tree = is }

-- nothing was done
pub leaves_none : (stands : Image → Searching → Type 0) (v : World) (X : Searching) → Settled v → stands v.here X → LeavesOnly v v (IsFilled stands v.here.said X [])
leaves_none stands v X settled is =
    let P = IsFilled stands v.here.said X [] in
    let here : P v.here = filled_none stands v.here.said X [] v.here refl is in
    started v P (λ told. here) (λ c left. subst P (sym (settled c left)) here)

-- ---- one command as another call gives it

module _ {R S : Type 0} (effects : Effects) (stands : Image → Searching → Type 0) (has : Searching → Type 0) (is : R → FillTurn → Type 0) (gives : S → FillTurn → Type 0) (c : Command) (X : Searching) (old new : World) where
  pub ends_given : (r : R) (s : S) → ((turn : FillTurn) → is r turn → gives s turn) → CommandEnds effects stands has is c X old new (Ok r) → CommandEnds effects stands has gives c X old new (Ok s)
  ends_given r s f ends = record { turns = ends.turns; so = let x = ends.so in (x.0, x.1, x.2, f x.0 x.3, x.4, x.5); images = ends.images }

  stops_too : (stop : Stop) (turns : List FillTurn) → TurnsSo effects has is c X old new (Err stop) turns → TurnsSo effects has gives c X old new (Err stop) turns
  stops_too (stops.Refused refusal) turns so = so
  stops_too stops.Fault turns so = so
  stops_too (stops.Changed ib stored computed) turns so = so
  stops_too stops.Memory turns so = so

  pub ends_stopped : (stop : Stop) → CommandEnds effects stands has is c X old new (Err stop) → CommandEnds effects stands has gives c X old new (Err stop)
  ends_stopped stop ends = record { turns = ends.turns; so = stops_too stop ends.turns ends.so; images = ends.images }

few : (hand : List FillTurn) → hand ≡ [] → length hand ≤ 1
few hand e = omega (arith, ap length e)

-- ---- the commands so far

-- none yet
pub filled_to_none : (effects : Effects) (stands : Image → Searching → Type 0) (has : Searching → Type 0) (places : FillPlaces) (seed : ℕ) (X : Searching) (v : World) → has X → Settled v → stands v.here X → FilledTo effects stands has places seed 0 nothing_made X v v
filled_to_none effects stands has places seed X v h settled is = record { turns = []; run = tt; len = refl; made_is = refl; disk = refl; has_it = h; images = leaves_none stands v X settled is }

module _ (effects : Effects) (stands : Image → Searching → Type 0) (has has' : Searching → Type 0) (places : FillPlaces) (seed n : ℕ) (X : Searching) (old mid new : World) (tells : new.tells → mid.tells) where
  -- and the next one
  pub filled_to_next : (made next : Made) (f : FilledTo effects stands has places seed n made X old mid)
      → CommandEnds effects stands has' (λ (m : Made) (turn : FillTurn). m ≡ made_after n turn.reply made) (fill_command places seed n made) (tree_at X f.turns) mid new (Ok next) → FilledTo effects stands has' places seed (n + 1) next X old new
  filled_to_next made next f ends =
      let x = ends.so in
      let turn : FillTurn = x.0 in
      let len : n ≡ 0 + length f.turns = omega (arith, f.len) in
      let does : Does effects new.tells (fill_command places seed n (made_at 0 nothing_made f.turns)) (tree_at X f.turns) (disk_at (medium old) f.turns) turn =
      rw (f.made_is, f.disk) x.2 in
      record {
        turns = f.turns ++ turn ∷ [];
        run = fills_more effects new.tells places seed 0 n nothing_made X (medium old) f.turns turn len (fills_still effects places seed 0 nothing_made X (medium old) f.turns tells f.run) does;
        len = omega (arith, count_more f.turns turn, f.len);
        made_is = made_more 0 n nothing_made f.turns turn len ∙ ap (λ m. made_after n turn.reply m) f.made_is ∙ sym x.3;
        disk = disk_more (medium old) f.turns (turn ∷ []) ∙ x.4;
        has_it = subst has' (sym (tree_more X f.turns (turn ∷ []))) x.5;
        images = subst (λ (ts : List FillTurn). LeavesOnly old new (IsFilled stands old.here.said X (f.turns ++ ts))) x.1 (leaves_then stands X f.turns ends.turns tells f.images ends.images);
      }

  -- or a stop
  at_stop : (count : ℕ) (stop : Stop) (made : Made) (f : FilledTo effects stands has places seed n made X old mid) (hand : List FillTurn) → n < commands_of count
      → TurnsSo effects has' (λ (m : Made) (turn : FillTurn). m ≡ made_after n turn.reply made) (fill_command places seed n made) (tree_at X f.turns) mid new (Err stop) hand → StopsSo effects has' places seed count X old new stop f.turns hand
  at_stop count (stops.Refused refusal) made f hand less so =
      ((so.0.0, so.0.1, λ t. rw (f.disk) (so.0.2 t)), omega (arith, less, f.len), rw (f.len, f.made_is, f.disk) so.1)
  at_stop count stops.Fault made f hand less so = tt
  at_stop count (stops.Changed ib stored computed) made f hand less so = so
  at_stop count stops.Memory made f hand less so = (so.0, so.1, λ t. rw (f.disk) (so.2 t))

  in_hand : (stop : Stop) (made : Made) (f : FilledTo effects stands has places seed n made X old mid) (hand : List FillTurn)
      → TurnsSo effects has' (λ (m : Made) (turn : FillTurn). m ≡ made_after n turn.reply made) (fill_command places seed n made) (tree_at X f.turns) mid new (Err stop) hand
      → Fills effects ⊥ places seed n made (tree_at X f.turns) (medium mid) hand × (length hand ≤ 1)
  in_hand (stops.Refused refusal) made f hand so = (subst (Fills effects ⊥ places seed n made (tree_at X f.turns) (medium mid)) (sym so.0.0) tt, few hand so.0.0)
  in_hand stops.Fault made f hand (inl none) = (subst (Fills effects ⊥ places seed n made (tree_at X f.turns) (medium mid)) (sym none) tt, few hand none)
  in_hand stops.Fault made f hand (inr one) = (subst (Fills effects ⊥ places seed n made (tree_at X f.turns) (medium mid)) (sym one.1) (one.2, tt), omega (arith, ap length one.1))
  in_hand (stops.Changed ib stored computed) made f hand so = absurd so
  in_hand stops.Memory made f hand so = (subst (Fills effects ⊥ places seed n made (tree_at X f.turns) (medium mid)) (sym so.0) tt, few hand so.0)

  pub stops_next : (count : ℕ) (stop : Stop) (made : Made) (f : FilledTo effects stands has places seed n made X old mid) → n < commands_of count
      → CommandEnds effects stands has' (λ (m : Made) (turn : FillTurn). m ≡ made_after n turn.reply made) (fill_command places seed n made) (tree_at X f.turns) mid new (Err stop) → StopsWithin effects stands has' places seed count X old new stop
  stops_next count stop made f less ends =
      let hands = in_hand stop made f ends.turns ends.so in
      record {
        turns = f.turns;
        run = fills_still effects places seed 0 nothing_made X (medium old) f.turns tells f.run;
        hand = ends.turns;
        in_hand = rw (f.len, f.made_is, f.disk) hands.0;
        one = hands.1;
        so = at_stop count stop made f ends.turns less ends.so;
        images = leaves_then stands X f.turns ends.turns tells f.images ends.images;
      }
