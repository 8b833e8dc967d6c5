use Rattle.std.proofs.Common.{◌≡◌, ◌⊎◌, inl, inr, ◌≤◌, ◌+◌, ◌*◌, ◌/◌, ◌^◌, ℕ, suc, List, length, subst, sym, ap, refl, arith, rules}
use Rattle.std.proofs.lemmas.Bool.{cases_lt}
use Rattle.tree_edit.specs.declared.plan.Child.{Child}
use Rattle.tree_edit.specs.Shapes.{RiseIn}
use Rattle.tree_edit.specs.Plans.{AreKeys, keys_of}
use Rattle.tree_edit.specs.Steps.{Lifts, Packs}
use Rattle.tree_change.specs.Tops.{room}
use Rattle.tree_change.proofs.AnewLaws.{within-start, within-step, within-end, many-step, many-end}
use Rattle.tree_change.proofs.CountLaws.{lift-step, lift-end}
use Rattle.tree_change.proofs.RootLaws.{lifts-same, lifts-then}
use Rattle.tree_change.proofs.root.lifted.Goals as goal

pub up-init : goal.up-init
up-init g c = record { lifts = lifts-same g.E.Entry.key c.args.level c.args.pages.now.items c.args.children.items; low = c.requires.level; rises = c.requires.rises; keys = c.requires.keys; writable = λ h. h; some = λ h. h; plain = omega arith; grown = λ e le. inl (refl, refl); narrow = λ n u ms narrows few. within-start n u (length c.args.children.items) (length c.args.pages.now.items) ms narrows few; many = λ h. h }

pub up-preserved : goal.up-preserved
up-preserved g c =
    let e : suc c.up.level ≡ c.up.level + 1 = omega arith in
    let low = c.up.invariant.low in
    let packs : Packs g.E.Entry.key c.up.level c.up.pages.items c.pack_inners.new.pages.items c.up.children.items c.in_ok-children.children.items =
    subst (λ (l : List (ℕ × Child)). Packs g.E.Entry.key c.up.level c.up.pages.items c.pack_inners.new.pages.items l c.in_ok-children.children.items) c.as_slice.ensures.value (c.in_ok-children.ensures.packs c.up.level (omega arith)) in
    let value = ap (λ (l : List (ℕ × Child)). length l) c.as_slice.ensures.value in
    let number : c.len.result ≡ length c.up.children.items = search rules in
    let test = c.up-test.true in
    let two : 2 ≤ length c.up.children.items = omega (arith, number, test) in
    let grows = c.in_ok-children.ensures.grows in
    let half : 2 * length c.in_ok-children.children.items ≤ length c.up.children.items =
    let k : ℕ = length c.up.children.items / 2 in
    let h = c.in_ok-children.ensures.few k 0 (omega (arith, two, value)) in
    omega (arith, h) in
    let pieces : (k e : ℕ) → length c.up.children.items ≤ k * 20 + e → length c.in_ok-children.children.items ≤ k + e = λ k e le. c.in_ok-children.ensures.few k e (omega (arith, le, value)) in
    let plain = c.up.invariant.plain in
    let new_some = c.in_ok-children.ensures.some in
    record {
      lifts = subst (λ (m : ℕ). Lifts g.E.Entry.key c.args.level m c.args.pages.now.items c.pack_inners.new.pages.items c.args.children.items c.in_ok-children.children.items) e
          (lifts-then g.E.Entry.key c.args.level c.up.level c.args.pages.now.items c.up.pages.items c.pack_inners.new.pages.items c.args.children.items c.up.children.items c.in_ok-children.children.items c.up.invariant.lifts packs);
      low = omega arith;
      rises = packs.rises 0 (2 ^ 64) c.up.invariant.rises;
      keys = c.in_ok-children.ensures.keys;
      writable = λ h. c.in_ok-children.ensures.writable (c.up.invariant.writable h);
      some = λ h. new_some (let x = c.up.invariant.some h in omega (arith, x, value));
      plain = omega (arith, plain, grows, half);
      grown = λ e le.
          let step = lift-step (length c.args.pages.now.items) (length c.args.children.items) (length c.up.pages.items) (length c.up.children.items) e (length c.in_ok-children.children.items) two half
          (λ less. c.in_ok-children.ensures.few 1 e (omega (arith, less, value))) le (c.up.invariant.grown e le) in
          subst (λ (n : ℕ). ((n ≡ length c.args.pages.now.items) × (length c.in_ok-children.children.items ≡ length c.args.children.items)) ⊎ (n + length c.in_ok-children.children.items ≤ length c.args.pages.now.items + 2 + 2 * e)) (sym grows) step;
      narrow = λ n u ms narrows few. within-step u (length c.up.children.items) (length c.up.pages.items) (length c.pack_inners.new.pages.items) (length c.args.pages.now.items + room u ms) (length c.in_ok-children.children.items) grows half pieces (c.up.invariant.narrow n u ms narrows few);
      many = λ h. many-step c.up.level (length c.up.children.items) (length c.in_ok-children.children.items) (omega arith) pieces (c.up.invariant.many h);
    }

pub returns-clause-plain : goal.returns-clause-plain
returns-clause-plain g c = c.up.invariant.plain

pub returns-clause-some : goal.returns-clause-some
returns-clause-some g c = c.up.invariant.some

pub returns-clause-grown : goal.returns-clause-grown
returns-clause-grown g c = λ e le.
    let plain = c.up.invariant.plain in
    let some = c.up.invariant.some in
    lift-end (length c.args.pages.now.items) (length c.args.children.items) (length c.up.pages.items) (length c.up.children.items) e some
    (λ few. elim (cases_lt 0 (length c.args.children.items)) [ inl h ↦ let s = some h in omega (arith, plain, few, s) | inr h ↦ omega (arith, plain, h) ]) (c.up.invariant.grown e le)

pub returns-clause-writable : goal.returns-clause-writable
returns-clause-writable g c = c.up.invariant.writable

pub pack_inners-requires-clause-rises : goal.pack_inners-requires-clause-rises
pack_inners-requires-clause-rises g c = subst (λ (l : List (ℕ × Child)). RiseIn 0 (2 ^ 64) (keys_of l)) (sym c.as_slice.ensures.value) c.up.invariant.rises

pub pack_inners-requires-clause-keys : goal.pack_inners-requires-clause-keys
pack_inners-requires-clause-keys g c = subst (λ (l : List (ℕ × Child)). AreKeys g.E.Entry.rule (keys_of l)) (sym c.as_slice.ensures.value) c.up.invariant.keys

pub returns-clause-narrow : goal.returns-clause-narrow
returns-clause-narrow g c = λ n u ms narrows few.
    let plain = c.up.invariant.plain in
    let some = c.up.invariant.some in
    let w = c.up.invariant.narrow n u ms narrows few in
    elim (cases_lt 0 (length c.args.children.items)) [ inl h ↦ within-end u (length c.up.children.items) (length c.up.pages.items) (length c.args.pages.now.items + room u ms) (some h) w | inr h ↦ omega (arith, plain, h) ]

pub returns-then-level-eq7-clause-many : goal.returns-then-level-eq7-clause-many
returns-then-level-eq7-clause-many g c =
    let number : c.len.result ≡ length c.up.children.items = search rules in
    let test = c.up-test.true in
    many-end c.args.level c.up.level (length c.args.children.items) (length c.up.children.items) c.if-level-eq7.true (omega (arith, number, test)) c.up.invariant.many
