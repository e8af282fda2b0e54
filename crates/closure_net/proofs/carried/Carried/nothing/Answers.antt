use Rattle.std.proofs.Common.{rules, length, ap}
use Rattle.closure_net.proofs.Places.{none_placed, places_none}
use Rattle.closure_net.proofs.carried.Carried.nothing.Goals as goal

pub invariant_of-result : goal.invariant_of-result
invariant_of-result g c = places_none c.in_ok-places.places.items c.args.arcs _
    (c.in_ok-places.ensures.items_if_clones_equal (λ y h. search rules)) c.ranges.arcs.fits
    (ap length c.new.ensures.items)

pub returns : goal.returns
returns g c = none_placed _ c.in_ok-places.places.items c.args.arcs
    (c.in_ok-places.ensures.items_if_clones_equal (λ y h. search rules))
