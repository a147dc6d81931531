use Rattle.std.proofs.Common.{◌<◌, length, arith}
use Rattle.textparts.proofs.Found.{line-left, next-lined, line-found, line-stands}
use Rattle.textparts.proofs.reader.Reader.next_line.Goals as goal

pub invariant_of-self : goal.invariant_of-self
invariant_of-self c =
    let r = c.args.self.now in
    let lt : r.next < length r.text.now = let le = r.within in omega arith in
    let k = line-left r.text.now r.next c.run.result lt c.run.ensures.within c.run.ensures.count r.lined in
    record {
      within = omega arith;
      lined = next-lined r.text.now r.next c.run.result c.min-self.result k.2 (λ h. omega (arith, h)) (λ h. omega (arith, h, k.0));
    }

pub invariant_of-result : goal.invariant_of-result
invariant_of-result c =
    let r = c.args.self.now in
    let lt : r.next < length r.text.now = let le = r.within in omega arith in
    let k = line-left r.text.now r.next c.run.result lt c.run.ensures.within c.run.ensures.count r.lined in
    record { begun = omega arith; order = omega arith; inside = k.0; whole = k.1; ended = k.2; uncut = k.3 }

pub returns-clause-steps : goal.returns-clause-steps
returns-clause-steps c =
    let r = c.args.self.now in
    let lt : r.next < length r.text.now = let le = r.within in omega arith in
    let k = line-left r.text.now r.next c.run.result lt c.run.ensures.within c.run.ensures.count r.lined in
    line-found r.text.now r.next c.run.result c.min-self.result lt c.run.ensures.count (λ h. omega (arith, h)) (λ h. omega (arith, h, k.0))

pub returns-clause-law : goal.returns-clause-law
returns-clause-law c =
    let r = c.args.self.now in
    let lt : r.next < length r.text.now = let le = r.within in omega arith in
    let k = line-left r.text.now r.next c.run.result lt c.run.ensures.within c.run.ensures.count r.lined in
    line-stands r.text.now r.next c.run.result lt k.0 c.run.ensures.count r.lined
