-- From the places to the counts.
use Rattle.std.proofs.Common.{◌≡◌, ◌⊎◌, inl, inr, ◌∙◌, ℕ, ◌+◌, ◌≤◌, Bool, List, [], ◌∷◌, ◌++◌, length, None, Some, Result, Ok, Err, refl, sym, subst, ap, arith}
use Rattle.std.proofs.lemmas.List.{append-nil}
use Rattle.pst_outside.specs.World.{Image, World}
use Rattle.pst_outside.specs.Calls.{LeavesOnly, Settled, Untouched}
use Rattle.mail_reading.specs.mail_draft.Answers.{Says}
use Rattle.mail_reading.specs.mail_draft.declared.stop.Stop.{Stop}
use Rattle.mail_reading.specs.mail_draft.declared.stop.Stop.TheVariants as stops
use Rattle.mail_objects.specs.Forms.{Ctx}
use Rattle.mail_tree.specs.Changing.{Answer, as_context, context_at, known, nothing}
use Rattle.mail_tree.specs.Tree.{Tree}
use Rattle.mail_tree.specs.Whole.{IsWhole}
use Rattle.mail_tree.proofs.AfterTree.{now_nothing}
use Rattle.mail_tree.proofs.Settles.{store_of}
use Rattle.mail_searches.specs.Searching.{Searching}
use Rattle.store_session.specs.Disks.{Effects, Medium, SameMedium, medium}
use Rattle.store_session.proofs.Carry.{its_medium, same_medium}
use Rattle.store_filling.specs.Commands.{nothing_made}
use Rattle.store_filling.specs.Counts.{CountsSo}
use Rattle.store_filling.specs.Doing.{FilledTo, StaysAt, StopsSo, StopsWithin}
use Rattle.store_filling.specs.Filling.{EndsSo, FillCame, StoreFillEnds, FillTurn, Fills, IsFilled, commands_of, disk_at, made_at, tree_at}
use Rattle.store_filling.specs.Places.{fill_places, named_folder}
use Rattle.store_filling.specs.declared.commands.Made.{Made}
use Rattle.store_filling.specs.declared.counting.FillCounts.{FillCounts}
use Rattle.store_filling.specs.declared.places.FillPlaces.{FillPlaces}
use Rattle.store_filling.proofs.Commits.{looks_leave}
use Rattle.store_filling.proofs.Turns.{fills_still, leaves_then}

-- ---- the places

-- a whole tree has the store's values
store_there : (T : Tree) → IsWhole T → (c : Ctx) × (context_at T nothing 0x21 ≡ Ok c)
store_there T w = let s = store_of w.objects in (s.0, ap (λ o. known (as_context o)) (ap (λ at. at 0x21) (now_nothing T) ∙ s.1))

-- so the places are there
pub places_there : (T : Tree) → IsWhole T → (p : FillPlaces) × (fill_places T ≡ Ok (p.folder.bits, p.search.bits))
unfolding fill_places
places_there T w =
    let s = store_there T w in
    (record { folder = record { bits = named_folder T.places 0x35E0 s.0.props }; search = record { bits = named_folder T.places 0x35E7 s.0.props } }, rw (s.1) refl)

no_refusal : (a : Answer (ℕ × ℕ)) (q : ℕ × ℕ) (stop : Stop) → a ≡ Ok q → Says (λ (p : FillPlaces). (p.folder.bits, p.search.bits)) a (Err stop) → (stop ≡ stops.Fault) ⊎ (stop ≡ stops.Memory)
no_refusal (Ok x) q (stops.Refused refusal) e said = absurd said
no_refusal (Ok x) q stops.Fault e said = inl refl
no_refusal (Ok x) q (stops.Changed ib stored computed) e said = absurd said
no_refusal (Ok x) q stops.Memory e said = inr refl
no_refusal (Err why) q stop e said = cc

told_places : (a : Answer (ℕ × ℕ)) (q : ℕ × ℕ) (p : FillPlaces) → a ≡ Ok q → Says (λ (p : FillPlaces). (p.folder.bits, p.search.bits)) a (Ok p) → a ≡ Ok (p.folder.bits, p.search.bits)
told_places (Ok x) q p e said = ap Ok (sym said)
told_places (Err why) q p e said = cc

-- as they were found
pub places_are : (T : Tree) (p : FillPlaces) → IsWhole T → Says (λ (p : FillPlaces). (p.folder.bits, p.search.bits)) (fill_places T) (Ok p) → fill_places T ≡ Ok (p.folder.bits, p.search.bits)
places_are T p w said = let there = places_there T w in told_places (fill_places T) (there.0.folder.bits, there.0.search.bits) p there.1 said

-- ---- ends

-- what a store has is seen of its disk
abbrev pub Seen : (Image → Searching → Type 0) → (Image → Type 0) → (Searching → Type 0) → World → Type 0
Seen stands rests has now = (Y : Searching) → has Y → stands now.here Y × Settled now × (now.tells → rests now.here)

module _ (effects : Effects) (stands : Image → Searching → Type 0) (rests : Image → Type 0) (has : Searching → Type 0) (first : World) (start : Searching) (seed count : ℕ) where
  ends_empty : (opened : Medium) (places : FillPlaces) (stop : Stop) → (stop ≡ stops.Fault) ⊎ (stop ≡ stops.Memory) → EndsSo effects places seed count start opened [] (Err stop)
  ends_empty opened places stop (inl fault) = subst (λ (s : Stop). EndsSo effects places seed count start opened [] (Err s)) (sym fault) tt
  ends_empty opened places stop (inr memory) = subst (λ (s : Stop). EndsSo effects places seed count start opened [] (Err s)) (sym memory) tt

  -- the places couldn't be had
  pub ends_unplaced : (now : World) (stop : Stop) → IsWhole start.tree → Says (λ (p : FillPlaces). (p.folder.bits, p.search.bits)) (fill_places start.tree) (Err stop) → Settled first → Untouched first now → stands first.here start → Seen stands rests has now → has start
      → StoreFillEnds effects stands rests (medium now) first now start seed count (Err stop)
  ends_unplaced now stop whole said settled same is seen h =
      let p = places_there start.tree whole in
      let s = seen start h in
      record {
        came = record {
          places = p.0;
          are = p.1;
          turns = [];
          run = tt;
          hand = [];
          in_hand = tt;
          one = omega arith;
          none_in_hand = λ no. refl;
          ends = ends_empty (medium now) p.0 stop (no_refusal (fill_places start.tree) (p.0.folder.bits, p.0.search.bits) stop p.1 said);
        };
        ends_as = λ no. s.0;
        disk_is = λ no told. its_medium now;
        settled = λ no. s.1;
        at_rest = λ no. s.2;
        images = looks_leave stands start settled same is;
      }

  module _ (places : FillPlaces) (are : fill_places start.tree ≡ Ok (places.folder.bits, places.search.bits)) (mid : World) (opens : LeavesOnly first mid (IsFilled stands first.here.said start [])) where
    -- the commands stopped
    stops_as : (now : World) (stop : Stop) (turns hand : List FillTurn) → StopsSo effects has places seed count start mid now stop turns hand → EndsSo effects places seed count start (medium mid) turns (Err stop)
    stops_as now (stops.Refused refusal) turns hand so = inl (so.1, so.2)
    stops_as now stops.Fault turns hand so = tt
    stops_as now (stops.Changed ib stored computed) turns hand so = so
    stops_as now stops.Memory turns hand so = tt

    calm : (now : World) (stop : Stop) (turns hand : List FillTurn) → (◌≡◌ {A = Result FillCounts Stop} (Err stop) (Err stops.Fault) → ⊥) → StopsSo effects has places seed count start mid now stop turns hand → StaysAt has start mid now turns hand
    calm now (stops.Refused refusal) turns hand unless so = so.0
    calm now stops.Fault turns hand unless so = absurd (unless refl)
    calm now (stops.Changed ib stored computed) turns hand unless so = absurd so
    calm now stops.Memory turns hand unless so = so

    pub ends_stopped : (now : World) (stop : Stop) → (now.tells → mid.tells) → StopsWithin effects stands has places seed count start mid now stop → Seen stands rests has now → StoreFillEnds effects stands rests (medium mid) first now start seed count (Err stop)
    ends_stopped now stop tells s seen = record {
      came = record {
        places = places;
        are = are;
        turns = s.turns;
        run = s.run;
        hand = s.hand;
        in_hand = s.in_hand;
        one = s.one;
        none_in_hand = λ no. (calm now stop s.turns s.hand no s.so).0;
        ends = stops_as now stop s.turns s.hand s.so;
      };
      ends_as = λ no. (seen (tree_at start s.turns) (calm now stop s.turns s.hand no s.so).1).0;
      disk_is = λ no. (calm now stop s.turns s.hand no s.so).2;
      settled = λ no. (seen (tree_at start s.turns) (calm now stop s.turns s.hand no s.so).1).1;
      at_rest = λ no. (seen (tree_at start s.turns) (calm now stop s.turns s.hand no s.so).1).2;
      images = leaves_then stands start [] (s.turns ++ s.hand) tells opens s.images;
    }

    -- all were carried out, and were counted or not
    counts_as : (turns : List FillTurn) (made : Made) (result : Result FillCounts Stop) → length turns ≡ commands_of count → made_at 0 nothing_made turns ≡ made → CountsSo (tree_at start turns) made result → EndsSo effects places seed count start (medium mid) turns result
    counts_as turns made (Ok counts) len is so = (len, rw is so)
    counts_as turns made (Err (stops.Refused refusal)) len is so = inr (len, rw is so)
    counts_as turns made (Err stops.Fault) len is so = tt
    counts_as turns made (Err (stops.Changed ib stored computed)) len is so = so
    counts_as turns made (Err stops.Memory) len is so = tt

    pub ends_counted : (done now : World) (made : Made) (result : Result FillCounts Stop) (f : FilledTo effects stands has places seed (commands_of count) made start mid done) → (done.tells → mid.tells) → Untouched done now → Settled done → stands done.here (tree_at start f.turns)
        → CountsSo (tree_at start f.turns) made result → stands now.here (tree_at start f.turns) × Settled now × (now.tells → rests now.here) → StoreFillEnds effects stands rests (medium mid) first now start seed count result
    ends_counted done now made result f tells same settled is so seen =
        let filled : LeavesOnly first done (IsFilled stands first.here.said start f.turns) = leaves_then stands start [] f.turns tells opens f.images in
        record {
          came = record {
            places = places;
            are = are;
            turns = f.turns;
            run = fills_still effects places seed 0 nothing_made start (medium mid) f.turns same.stays.told f.run;
            hand = [];
            in_hand = tt;
            one = omega arith;
            none_in_hand = λ no. refl;
            ends = counts_as f.turns made result f.len f.made_is so;
          };
          ends_as = λ no. seen.0;
          disk_is = λ no told. subst (λ (m : Medium). SameMedium m (medium now)) (sym f.disk) (same_medium done now (same.stays.here told) same.stays.written);
          settled = λ no. seen.1;
          at_rest = λ no. seen.2;
          images = leaves_then stands start f.turns [] same.stays.told filled (looks_leave stands (tree_at start f.turns) settled same is);
        }
