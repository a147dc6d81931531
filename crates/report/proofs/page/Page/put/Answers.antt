use Rattle.std.proofs.Common.{◌≡◌, ◌+◌, ◌-◌, length, refl, ap, ◌∙◌, arith}
use Rattle.std.proofs.lemmas.Slice.{put_mid-paste}
use Rattle.report.specs.Page.{put}
use Rattle.report.proofs.Puts.{length-put}
use Rattle.report.proofs.page.Page.put.Goals as goal

pub returns : goal.returns
unfolding put
returns c =
    let p = c.args.self.now in
    let n = length c.args.bytes.now in
    let part : n ≡ p.len + n - p.len = omega arith in
    let there : _ ≡ put p.buffer.now p.len c.args.bytes.now =
    put_mid-paste p.len (p.len + n - p.len) p.buffer.now _ _ n c.copy_from_slice.ensures.after part refl in
    let size = ap length there ∙ length-put _ _ _ c.requires in
    record { same = refl; size = size; len = refl; put_there = there }
