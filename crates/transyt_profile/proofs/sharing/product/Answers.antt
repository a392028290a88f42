-- The product is the share.
use Rattle.transyt_profile.proofs.SharesFit.{share_by}
use Rattle.transyt_profile.proofs.sharing.product.Goals as goal

-- the quotient that the shift leaves
pub returns-clause-value : goal.returns-clause-value
returns-clause-value c =
    let q = c.args.part.now.is_quick c.requires.quick in
    rw (c.from.ensures, c.from-2.ensures, q.is)
    (share_by _ _ _ _ c.requires.fits c.args.part.now.fits q.some q.fits q.least q.close)
