-- What pins tell, before and after a call of the keeper.
use Rattle.std.proofs.Common.{◌≡◌, ◌∙◌, ℕ, eqb, if◌then◌else◌, Bool, true, false, List, [], ◌∷◌, ◌++◌, drop, Option, None, Some, Result, Ok, Err, refl, sym, ap, subst, ◌||◌}
use Rattle.std.specs.Prelude.{IfErr, IfOk, ◌==◌}
use Rattle.std.specs.List.{list_any}
use Rattle.std.specs.Option.{is_some, option_map}
use Rattle.std.proofs.lemmas.Bool.{eqb-true, eqb-false}
use Rattle.pst_base.specs.declared.ids.Nid.{Nid}
use Rattle.pst_outside.specs.World.{Image, World}
use Rattle.pst_header.specs.declared.header.Header.{Header}
use Rattle.gate_file.specs.Gate.{IsShut}
use Rattle.file_blocks.specs.Blocks.{file_of}
use Rattle.node_port.specs.declared.keeper.KeepStop.{KeepStop}
use Rattle.node_port.specs.declared.keeper.KeepStop.TheVariants as keep
use Rattle.node_port.specs.Nodes.{Nodes}
use Rattle.node_port.specs.declared.node.NodeRec.{NodeRec}
use Rattle.node_port.specs.Pins.{Pins, opened_without}
use Rattle.node_port.specs.Stops.{KeepStops}
use Rattle.lays_kept.specs.declared.Piece.{Piece}
use Rattle.lays_kept.specs.Kept.{HoldsEach, Scattered}
use Rattle.lays_kept.proofs.Gates.{shut_file}
use Rattle.pst_commit.specs.declared.store.Pin.{Pin}
use Rattle.pst_commit.specs.Commit.{IsApplied}
use Rattle.pst_commit.specs.Held.{HoldsTrees, KeepsEach, KeepsTrees, StandsAt, held_at, held_without, opened_of, pin_at, rooted}
use Rattle.pst_commit.specs.Keeping.{Comes, Holds, IsKnowledge, LooksOn, Pinned, ReadsAs}
use Rattle.pst_commit.proofs.Holding.{held_after, held_reads}

-- ---- stops

-- a stop has a cause also where less is held
pub stop_weaker : (disk : Bool) (before after : ℕ) (P Q : Nodes → Type 0) → ((N : Nodes) → Q N → (M : Nodes) × P M) → (stop : KeepStop) → KeepStops disk before after P stop → KeepStops disk before after Q stop
stop_weaker disk before after P Q f keep.Fault is = is
stop_weaker disk before after P Q f (keep.Changed ib stored computed) is = λ N held. let more = f N held in is more.0 more.1
stop_weaker disk before after P Q f keep.Memory is = tt

pub err_weaker : {A : Type 0} (r : Result A KeepStop) (disk : Bool) (before after : ℕ) (P Q : Nodes → Type 0) → ((N : Nodes) → Q N → (M : Nodes) × P M) → IfErr r (KeepStops disk before after P) → IfErr r (KeepStops disk before after Q)
err_weaker (Ok x) disk before after P Q f is = tt
err_weaker (Err stop) disk before after P Q f is = stop_weaker disk before after P Q f stop is

pub ok_weaker : {A E : Type 0} (r : Result A E) (P Q : A → Type 0) → ((x : A) → P x → Q x) → IfOk r P → IfOk r Q
ok_weaker (Ok x) P Q f is = f x is
ok_weaker (Err stop) P Q f is = tt

-- ---- pins that stay

-- what a pin told of a file it tells of another that keeps the trees of each
pub each_stands : (old new : Header) (file other : List ℕ) (held : List (Pin × List Bool)) → KeepsEach old new file other held → (p : ℕ) (M : Nodes) → StandsAt old file (held_at p held) M → StandsAt new other (held_at p held) M
each_stands old new file other [] all p M = λ is. absurd is
each_stands old new file other (pin ∷ held) all p M = by (each_stands old new file other held all.1 p M) (eqb (pin.0).number p)
  where
    by : (StandsAt old file (held_at p held) M → StandsAt new other (held_at p held) M) → (b : Bool) → StandsAt old file (if b then Some pin else held_at p held) M → StandsAt new other (if b then Some pin else held_at p held) M
    by rest true is = all.0 (pin.0).nbt (pin.0).bbt M is
    by rest false is = rest is

-- a file that keeps all trees keeps those of each pin
pub keeps_each : (old new : Header) (file other : List ℕ) → ((used : List Bool) → KeepsTrees old new file other used) → (held : List (Pin × List Bool)) → KeepsEach old new file other held
keeps_each old new file other all [] = tt
keeps_each old new file other all (pin ∷ held) = (all pin.1, keeps_each old new file other all held)

-- after a call that only looks a pin tells the same
pub still_pinned : {knows knows' : Header → List ℕ → Type 0} {rooted : Header} {used used' : List Bool} {held held' : List (Pin × List Bool)} {cells cells' : ℕ × ℕ × Bool} {v w : World} (header : Header)
    → LooksOn knows knows' rooted used used' held held' cells cells' v w → (p : ℕ) (M : Nodes) → Pinned held header v p M → Pinned held' header w p M
still_pinned {knows} {knows'} {rooted} {used} {used'} {held} {held'} {cells} {cells'} {v} {w} header looks p M is =
    let told : w.tells = looks.world.keeps_told is.0 in (
      told,
      subst (λ c. StandsAt header (file_of c) (held_at p held') M) (sym (looks.world.stays.here told))
          (subst (λ h. StandsAt header (file_of v.here) (held_at p h) M) (sym looks.pins) is.1),
    )

-- ---- the pins as they are told

-- a pin of a number is kept just where one is open
pub has_held : (p : ℕ) (held : List (Pin × List Bool)) → is_some (pin_at p held) ≡ list_any (λ (pin : ℕ × List Bool). pin.0 == p) (opened_of held)
has_held p [] = refl
has_held p (pin ∷ held) = by (has_held p held) (eqb (pin.0).number p)
  where
    by : is_some (pin_at p held) ≡ list_any (λ (one : ℕ × List Bool). one.0 == p) (opened_of held) → (b : Bool) → is_some (option_map (λ (one : Pin × List Bool). one.0) (if b then Some pin else held_at p held)) ≡ (b || list_any (λ (one : ℕ × List Bool). one.0 == p) (opened_of held))
    by rest true = refl
    by rest false = rest

-- so where one is open, it is kept
pub none_held : (p : ℕ) (held : List (Pin × List Bool)) → pin_at p held ≡ None → list_any (λ (pin : ℕ × List Bool). pin.0 == p) (opened_of held) ≡ true → ⊥
none_held p held none some = let one : is_some (pin_at p held) ≡ false = ap is_some none in clash (sym one ∙ has_held p held ∙ some)
  where
    clash : false ≡ true → ⊥
    clash e = cc

-- what isn't there is none
pub none_at : (o : Option Pin) → is_some o ≡ false → o ≡ None
none_at None e = refl
none_at (Some pin) e = absurd (cc)

-- the pins of these that are open
abbrev pub pins_with : ℕ → List (ℕ × List Bool) → Pins
pins_with given opened = record { given = given; opened = opened }

-- without one pin the same are told without it
pub opened_of_without : (p : ℕ) (held : List (Pin × List Bool)) → opened_of (held_without p held) ≡ opened_without p (opened_of held)
opened_of_without p [] = refl
opened_of_without p (pin ∷ held) = by (opened_of_without p held) (eqb (pin.0).number p)
  where
    by : opened_of (held_without p held) ≡ opened_without p (opened_of held) → (b : Bool) → opened_of (if b then held else pin ∷ held_without p held) ≡ (if b then opened_of held else ((pin.0).number, pin.1) ∷ opened_without p (opened_of held))
    by same true = refl
    by same false = ap (λ (rest : List (ℕ × List Bool)). ((pin.0).number, pin.1) ∷ rest) same

-- and each other tells what it told
pub held_other : (p q : ℕ) (held : List (Pin × List Bool)) → (q ≡ p → ⊥) → held_at q (held_without p held) ≡ held_at q held
held_other p q [] other = refl
held_other p q (pin ∷ held) other = by (held_other p q held other) (eqb (pin.0).number p) (eqb (pin.0).number q) refl refl
  where
    by : held_at q (held_without p held) ≡ held_at q held → (b d : Bool) → eqb (pin.0).number p ≡ b → eqb (pin.0).number q ≡ d → held_at q (if b then held else pin ∷ held_without p held) ≡ (if d then Some pin else held_at q held)
    by rest true true e f = absurd (other (sym (eqb-true (pin.0).number q f) ∙ eqb-true (pin.0).number p e))
    by rest true false e f = refl
    by rest false true e f = ap (λ (b : Bool). if b then Some pin else held_at q (held_without p held)) f
    by rest false false e f = ap (λ (b : Bool). if b then Some pin else held_at q (held_without p held)) f ∙ rest

-- of a number that no other has
pub held_new : (pin : Pin) (used : List Bool) (held : List (Pin × List Bool)) → pin_at pin.number held ≡ None → held_at pin.number (held ++ (pin, used) ∷ []) ≡ Some (pin, used)
held_new pin used [] none = by (eqb pin.number pin.number) refl
  where
    by : (b : Bool) → eqb pin.number pin.number ≡ b → ◌≡◌ {A = Option (Pin × List Bool)} (if b then Some (pin, used) else None) (Some (pin, used))
    by true e = refl
    by false e = absurd (eqb-false pin.number pin.number e refl)
held_new pin used (one ∷ held) none = by (held_new pin used held) (eqb (one.0).number pin.number) none
  where
    by : (pin_at pin.number held ≡ None → held_at pin.number (held ++ (pin, used) ∷ []) ≡ Some (pin, used)) → (b : Bool) → option_map (λ (x : Pin × List Bool). x.0) (if b then Some one else held_at pin.number held) ≡ None → (if b then Some one else held_at pin.number (held ++ (pin, used) ∷ [])) ≡ Some (pin, used)
    by rest true e = absurd (cc)
    by rest false e = rest e

-- and each other tells what it told
pub held_more : (header : Header) (file : List ℕ) (q : ℕ) (M : Nodes) (held more : List (Pin × List Bool)) → StandsAt header file (held_at q held) M → StandsAt header file (held_at q (held ++ more)) M
held_more header file q M [] more = λ is. absurd is
held_more header file q M (pin ∷ held) more = by (held_more header file q M held more) (eqb (pin.0).number q)
  where
    by : (StandsAt header file (held_at q held) M → StandsAt header file (held_at q (held ++ more)) M) → (b : Bool) → StandsAt header file (if b then Some pin else held_at q held) M → StandsAt header file (if b then Some pin else held_at q (held ++ more)) M
    by rest true is = is
    by rest false is = rest is

-- what the pin of a number tells, its trees lay
pub pin_stands : (header : Header) (file : List ℕ) (M : Nodes) (pin : Pin) (o : Option (Pin × List Bool)) → option_map (λ (x : Pin × List Bool). x.0) o ≡ Some pin → StandsAt header file o M → (used : List Bool) × HoldsTrees header file pin.nbt pin.bbt used M
pin_stands header file M pin None e is = absurd is
pin_stands header file M pin (Some one) e is = (one.1, let same : one.0 ≡ pin = cc in subst (λ (x : Pin). HoldsTrees header file x.nbt x.bbt one.1 M) same is)

-- and where it tells some, a world reads as they under a header with its roots
pub at_reads : {knows : Header → List ℕ → Type 0} {header read : Header} {v : World} (found : List ℕ) (N M : Nodes) (held : List (Pin × List Bool)) (p : ℕ) (pin : Pin) → pin_at p held ≡ Some pin → read ≡ rooted header pin.nbt pin.bbt
    → Holds knows found header v N → Pinned held header v p M → ReadsAs knows read v M
at_reads {knows} {header} {read} {v} found N M held p pin e same holds is =
    let stands = pin_stands header (file_of v.here) M pin (held_at p held) e is.1 in
    subst (λ h. ReadsAs knows h v M) (sym same) (record {
      told = is.0;
      present = header;
      known = holds.1.known;
      end = refl;
      m = (stands.1).m;
      lays = (stands.1).lays;
      those = (stands.1).those;
    })

-- after a call that only looks under such a header the same is held
pub held_beside : {knows knows' : Header → List ℕ → Type 0} {header read : Header} {used used' : List Bool} {held held' : List (Pin × List Bool)} {cells cells' : ℕ × ℕ × Bool} {v w : World} (found : List ℕ) (N M : Nodes) (p : ℕ) (pin : Pin)
    → LooksOn knows knows' read used used' held held' cells cells' v w → pin_at p held ≡ Some pin → read ≡ rooted header pin.nbt pin.bbt → Holds knows found header v N → Pinned held header v p M → Holds knows' found header w N
held_beside {knows} {knows'} {header} {read} {used} {used'} {held} {held'} {cells} {cells'} {v} {w} found N M p pin looks e same holds is =
    let reads : ReadsAs knows read v M = at_reads found N M held p pin e same holds is in
    held_after found N reads.m looks reads.lays (ap (λ (h : Header). h.eof) same) holds

-- ---- a new pin

-- what is held is held where no less is known
pub holds_more : {knows knows' : Header → List ℕ → Type 0} {header : Header} (v : World) (found : List ℕ) (N : Nodes) → ((file : List ℕ) → knows header file → knows' header file) → Holds knows found header v N → Holds knows' found header v N
holds_more {knows} {knows'} {header} v found N more holds = (
  holds.0,
  record { stands = holds.1.stands; own = holds.1.own; known = more (file_of v.here) holds.1.known },
)

-- a new pin, of a number that no other has, tells what is held
pub new_pinned : {knows : Header → List ℕ → Type 0} {used : List Bool} {opened : List (ℕ × List Bool)} {cells : ℕ × ℕ × Bool} {header : Header} (v : World) (right : IsKnowledge knows used opened cells) (found : List ℕ) (N : Nodes) (number : ℕ) (held now : List (Pin × List Bool))
    → pin_at number held ≡ None → now ≡ held ++ (record { number = number; nbt = header.nbt; bbt = header.bbt }, used) ∷ [] → Holds knows found header v N → Pinned now header v number N
new_pinned {knows} {used} {opened} {cells} {header} v right found N number held now none is holds =
    let pin : Pin = record { number = number; nbt = header.nbt; bbt = header.bbt } in
    let reads : ReadsAs knows header v N = held_reads found N holds in
    let all = right.measured header (file_of v.here) reads.m reads.lays holds.1.known in
    let at : held_at number now ≡ Some (pin, used) = ap (held_at number) is ∙ held_new pin used held none in (
      holds.0,
      subst (λ o. StandsAt header (file_of v.here) o N) (sym at) (record {
        m = reads.m;
        lays = reads.lays;
        those = reads.those;
        size = all.size;
        covered = all.covered;
      }),
    )

-- ---- a commit

-- a pin tells the same after a commit that keeps the trees of each
pub next_pinned : {after : Header → List ℕ → Type 0} {becomes : List ℕ → List ℕ → Type 0} {costs : List ℕ → List ℕ → List (Nid × Option NodeRec) → ℕ → Type 0} {held : List (Pin × List Bool)} {found sealed : List ℕ} {before header : Header} {pieces : List Piece} {cs : List (Nid × Option NodeRec)} {old new : Image} {N : Nodes}
    → IsShut old.side → Comes after becomes costs held found before old.main pieces sealed header cs N → IsApplied (λ mid. Scattered pieces old.main mid × HoldsEach mid pieces) sealed old new
    → (p : ℕ) (M : Nodes) → StandsAt before (file_of old) (held_at p held) M → StandsAt header (file_of new) (held_at p held) M
next_pinned {after} {becomes} {costs} {held} {found} {sealed} {before} {header} {pieces} {cs} {old} {new} {N} shut comes is p M stands =
    subst (λ f. StandsAt header f (held_at p held) M) (sym (shut_file new.main new.side is.shut ∙ is.main))
    (each_stands before header old.main (sealed ++ drop 564 is.mid) held (comes.keeps is.mid is.file.0 is.file.1) p M
    (subst (λ f. StandsAt before f (held_at p held) M) (shut_file old.main old.side shut) stands))
