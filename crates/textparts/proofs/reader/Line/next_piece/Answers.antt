use Rattle.std.proofs.Common.{◌+◌, ◌-◌, ◌∷◌, map, length, take, drop, sym, ap, ap₂, ◌∙◌, subst, arith}
use Rattle.textparts.specs.Laws.{PieceIn}
use Rattle.textparts.specs.Spans.{at}
use Rattle.textparts.specs.Tokens.{remark, told}
use Rattle.textparts.specs.View.{unread}
use Rattle.textparts.proofs.Found.{AtWord, word-left, word-found, word_stands, word_none, remark-found, remark-stands, end-left, plain-left, begun-left}
use Rattle.textparts.proofs.reader.Line.next_piece.Goals as goal
use Rattle.textparts.proofs.reader.Line.next_piece.Goals.{else-self-via-then-self+else-is_remark, else-self-via-else-self}

pub returns-then-is_remark-clause-steps : goal.returns-then-is_remark-clause-steps
returns-then-is_remark-clause-steps c =
    let l = c.args.self.now in
    let s = c.run-skipped.result in
    let found = take (length (unread l) - s) (drop s (unread l)) in
    remark-found l.at l.start s (unread l) c.if-self.true c.run-skipped.ensures.count (sym c.is_remark.ensures ∙ c.if-is_remark.true)
    ∙ ap (λ ts. remark (at (l.at + s) found) ∷ ts) (sym (end-left l.start l.end l.text.now))

pub returns-then-is_remark-clause-law : goal.returns-then-is_remark-clause-law
returns-then-is_remark-clause-law c =
    let l = c.args.self.now in
    let s = c.run-skipped.ensures in
    remark-stands l.text.now l.at l.end c.run-skipped.result l.order l.inside s.within l.whole l.uncut l.ended s.count (sym c.is_remark.ensures ∙ c.if-is_remark.true)

pub returns-then-n-eq0-clause-steps : goal.returns-then-n-eq0-clause-steps
returns-then-n-eq0-clause-steps c =
    let l = c.args.self.now in
    let s = c.run-skipped.ensures in
    let n = c.run-n.ensures in
    let word : AtWord l.text.now l.at l.end c.run-skipped.result c.run-n.result = record { order = l.order; inside = l.inside; whole = l.whole; uncut = l.uncut; ended = l.ended; space = s.count; spaced = s.within; long = n.count; fits = n.within } in
    plain-left l.at l.start c.run-skipped.result (unread l) s.count
    (λ h. elim c.else-self.branch [ else-self-via-then-self+else-is_remark w ↦ sym w.is_remark.ensures ∙ w.if-is_remark.false | else-self-via-else-self w ↦ absurd (w.if-self.false h) ])
    ∙ ap (map told) (word_none _ _ _ _ _ word c.if-n-eq0.true)

pub returns-then-n-eq0-clause-end : goal.returns-then-n-eq0-clause-end
returns-then-n-eq0-clause-end c =
    let l = c.args.self.now in
    let s = c.run-skipped.ensures in
    let n = c.run-n.ensures in
    let word : AtWord l.text.now l.at l.end c.run-skipped.result c.run-n.result = record { order = l.order; inside = l.inside; whole = l.whole; uncut = l.uncut; ended = l.ended; space = s.count; spaced = s.within; long = n.count; fits = n.within } in
    plain-left l.at l.start c.run-skipped.result (unread l) s.count
    (λ h. elim c.else-self.branch [ else-self-via-then-self+else-is_remark w ↦ sym w.is_remark.ensures ∙ w.if-is_remark.false | else-self-via-else-self w ↦ absurd (w.if-self.false h) ])
    ∙ ap (map told) (word_none _ _ _ _ _ word c.if-n-eq0.true)

pub invariant_of-self-2 : goal.invariant_of-self-2
invariant_of-self-2 c =
    let l = c.args.self.now in
    let s = c.run-skipped.ensures in
    let n = c.run-n.ensures in
    let word : AtWord l.text.now l.at l.end c.run-skipped.result c.run-n.result = record { order = l.order; inside = l.inside; whole = l.whole; uncut = l.uncut; ended = l.ended; space = s.count; spaced = s.within; long = n.count; fits = n.within } in
    let k = word-left _ _ _ _ _ word in
    record { begun = omega (arith, l.begun); order = k.0; inside = l.inside; whole = k.1; ended = l.ended; uncut = k.2 }

pub returns-clause-steps : goal.returns-clause-steps
returns-clause-steps c =
    let l = c.args.self.now in
    let s = c.run-skipped.ensures in
    let n = c.run-n.ensures in
    let word : AtWord l.text.now l.at l.end c.run-skipped.result c.run-n.result = record { order = l.order; inside = l.inside; whole = l.whole; uncut = l.uncut; ended = l.ended; space = s.count; spaced = s.within; long = n.count; fits = n.within } in
    let a = l.at + c.run-skipped.result + c.run-n.result in
    let rest = take (l.end - a) (drop a l.text.now) in
    plain-left l.at l.start c.run-skipped.result (unread l) s.count
    (λ h. elim c.else-self.branch [ else-self-via-then-self+else-is_remark w ↦ sym w.is_remark.ensures ∙ w.if-is_remark.false | else-self-via-else-self w ↦ absurd (w.if-self.false h) ])
    ∙ word-found _ _ _ _ _ word (omega arith)
    ∙ ap₂ (λ t ts. t ∷ ts) (sym c.told.ensures) (begun-left a l.start rest (omega (arith, l.begun)))

pub returns-clause-law : goal.returns-clause-law
returns-clause-law c =
    let l = c.args.self.now in
    let s = c.run-skipped.ensures in
    let n = c.run-n.ensures in
    let word : AtWord l.text.now l.at l.end c.run-skipped.result c.run-n.result = record { order = l.order; inside = l.inside; whole = l.whole; uncut = l.uncut; ended = l.ended; space = s.count; spaced = s.within; long = n.count; fits = n.within } in
    subst (PieceIn l.text.now) (sym c.told.ensures) (word_stands _ _ _ _ _ word (omega arith))
