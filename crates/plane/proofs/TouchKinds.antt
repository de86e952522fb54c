-- In which way two edges touch, by the way in which they meet.
use Rattle.std.proofs.Common.{◌≡◌, Bool, true, false, not, ◌&&◌, ◌||◌, ◌≢◌, ◌++◌, Some, None, sym, refl, ap, ◌∙◌, subst, arith}
use Rattle.plane.specs.Points.{Point}
use Rattle.plane.specs.Edges.{Edge, Proper, zeros, smaller?, equal?, between?}
use Rattle.plane.specs.Rules.{listed, ends_between, some?}
use Rattle.plane.specs.Models.{edge_of, TouchesAs}
use Rattle.plane.specs.Answers.{meeting}
use Rattle.plane.specs.declared.x_segment.XSegment.{XSegment}
use Rattle.plane.specs.declared.touch_type.TouchType.TheVariants as kind
use Rattle.plane.specs.declared.meeting.Meeting.{Meeting}
use Rattle.plane.specs.declared.meeting.Meeting.TheVariants.{Aligned, Apart, OtherA, OtherB, TargetA, TargetB, Crossed}
use Rattle.plane.proofs.EdgeOf.{proper_of}
use Rattle.plane.proofs.Tests.{clash, not_smaller, smaller_asym}
use Rattle.plane.proofs.Meetings.{Met, met}
use Rattle.plane.proofs.Touching.{as_none, as_end, as_inner}

neither_not : (a b : Bool) → (not a && not b) ≡ true → (a ≡ false) × (b ≡ false)
neither_not true b h = absurd (grind arith)
neither_not false true h = absurd (grind arith)
neither_not false false h = (refl, refl)

one_not : (a b : Bool) → (not a && not b) ≡ false → a ≡ false → b ≡ true
one_not true b h e = absurd (grind arith)
one_not false true h e = refl
one_not false false h e = absurd (grind arith)

pub equal_yes : (e g : Edge) → equal? e g ≡ true → e ≡ g
equal_yes e g h = let w = neither_not (smaller? e g) (smaller? g e) h in not_smaller e g w.0 w.1

not_self : (e : Edge) → smaller? e e ≡ false
not_self e = go (smaller? e e) refl
  where
    go : (b : Bool) → smaller? e e ≡ b → smaller? e e ≡ false
    go true h = smaller_asym e e h
    go false h = h

pub equal_no : (e g : Edge) → equal? e g ≡ false → e ≢ g
equal_no e g h q = clash (one_not (smaller? e g) (smaller? g e) h (subst (λ (z : Edge). smaller? e z ≡ false) q (not_self e))) (subst (λ (z : Edge). smaller? z e ≡ false) q (not_self e))

some_listed : (a b : Bool) (p q : Point) → some? (listed a p ++ listed b q) ≡ (a || b)
some_listed true b p q = refl
some_listed false true p q = refl
some_listed false false p q = refl

-- what four tests say together
pub any_between : (e g : Edge) (r ea eb ga gb : Bool) → r ≡ ((ga || gb) || (ea || eb))
    → ea ≡ between? g e.a → eb ≡ between? g e.b → ga ≡ between? e g.a → gb ≡ between? e g.b
    → (some? (ends_between e g) || some? (ends_between g e)) ≡ r
any_between e g r ea eb ga gb h a b c d =
    ap (λ (z : Bool). z || some? (ends_between g e)) (some_listed (between? e g.a) (between? e g.b) g.a g.b)
    ∙ ap (λ (z : Bool). (between? e g.a || between? e g.b) || z) (some_listed (between? g e.a) (between? g e.b) e.a e.b)
    ∙ same (between? e g.a) (between? e g.b) (between? g e.a) (between? g e.b) c d a b ∙ sym h
  where
    same : (i j k l : Bool) → ga ≡ i → gb ≡ j → ea ≡ k → eb ≡ l → ((i || j) || (k || l)) ≡ ((ga || gb) || (ea || eb))
    same i j k l p q s t = rw (p, q, s, t)

-- each way of meeting but the aligned one
abbrev pub KindAt : Edge → Edge → Meeting → Type 0
KindAt e g Aligned = zeros e g ≡ 4
KindAt e g Apart = TouchesAs e g None
KindAt e g OtherA = TouchesAs e g (Some kind.End)
KindAt e g OtherB = TouchesAs e g (Some kind.End)
KindAt e g TargetA = TouchesAs e g (Some kind.End)
KindAt e g TargetB = TouchesAs e g (Some kind.End)
KindAt e g Crossed = TouchesAs e g (Some kind.Inner)

kind_at : (e g : Edge) (m : Meeting) → Proper e → Proper g → Met e g m → KindAt e g m
kind_at e g Aligned pe pg h = h
kind_at e g Apart pe pg h = as_none e g pe pg h.0 h.1
kind_at e g OtherA pe pg h = as_end e g pe pg h.0.one h.0.two_sided
kind_at e g OtherB pe pg h = as_end e g pe pg h.0.one h.0.two_sided
kind_at e g TargetA pe pg h = as_end e g pe pg h.0.one h.0.two_sided
kind_at e g TargetB pe pg h = as_end e g pe pg h.0.one h.0.two_sided
kind_at e g Crossed pe pg h = as_inner e g pe pg h

pub touch_kind : (x y : XSegment) (m : Meeting) → m ≡ meeting (edge_of x) (edge_of y) → KindAt (edge_of x) (edge_of y) m
touch_kind x y m q = kind_at (edge_of x) (edge_of y) m (proper_of x) (proper_of y) (subst (Met (edge_of x) (edge_of y)) (sym q) (met (edge_of x) (edge_of y)))

-- neither on one line, apart nor inner: an end
pub touch_end : (x y : XSegment) (m : Meeting) → m ≡ meeting (edge_of x) (edge_of y) → m ≢ Aligned → m ≢ Apart → m ≢ Crossed → TouchesAs (edge_of x) (edge_of y) (Some kind.End)
touch_end x y m q a b c = go m (touch_kind x y m q) a b c
  where
    go : (m : Meeting) → KindAt (edge_of x) (edge_of y) m → m ≢ Aligned → m ≢ Apart → m ≢ Crossed → TouchesAs (edge_of x) (edge_of y) (Some kind.End)
    go Aligned h a b c = absurd (a refl)
    go Apart h a b c = absurd (b refl)
    go OtherA h a b c = h
    go OtherB h a b c = h
    go TargetA h a b c = h
    go TargetB h a b c = h
    go Crossed h a b c = absurd (c refl)
