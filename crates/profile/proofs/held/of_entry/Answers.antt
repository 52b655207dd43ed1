-- Each case of the definition, its lookups one after the other. Assumes nothing.
use Rattle.std.proofs.Common.{refl, ap, ◌∙◌}
use Rattle.lists.specs.Convert.{table_in}
use Rattle.profile.specs.Profile.{tells, of_range}
use Rattle.lists.proofs.ConvertLaws.{value_goes_on, value_stops}
use Rattle.profile.proofs.TellLaws.{told_of, failed_kept, selects_kept}
use Rattle.profile.proofs.held.of_entry.Goals as goal

pub returns-in_default : goal.returns-in_default
unfolding tells
returns-in_default c = failed_kept _ (ap (tells _ _ _) c.in-StartxEndx.is ∙ value_stops _ _ c.in_default.ensures)

pub returns-in_default-address : goal.returns-in_default-address
unfolding tells
returns-in_default-address c =
    failed_kept _ (ap (tells _ _ _) c.in-StartxEndx.is ∙ value_goes_on _ c.in-Ok.ensures ∙ value_stops _ _ c.in_default-address.ensures)

pub returns-in_default-address-2 : goal.returns-in_default-address-2
unfolding tells
returns-in_default-address-2 c = failed_kept _ (ap (tells _ _ _) c.in-StartxLength.is ∙ value_stops _ _ c.in_default-address-2.ensures)

pub returns-in-AddressOrOffsetPair : goal.returns-in-AddressOrOffsetPair
unfolding tells
returns-in-AddressOrOffsetPair c = told_of _ (ap (tells _ _ _) c.in-AddressOrOffsetPair.is) c.of_offsets.ensures

pub returns-in-BaseAddress : goal.returns-in-BaseAddress
unfolding tells
returns-in-BaseAddress c = told_of _ (ap (tells _ _ _) c.in-BaseAddress.is) refl

pub returns-in-BaseAddressx : goal.returns-in-BaseAddressx
unfolding tells
returns-in-BaseAddressx c = selects_kept _ (table_in c.args.unit.now c.in-BaseAddressx.field-0) (ap (tells _ _ _) c.in-BaseAddressx.is)

pub returns-in-Ok-address : goal.returns-in-Ok-address
unfolding tells
returns-in-Ok-address c =
    told_of _ (ap (tells _ _ _) c.in-StartxEndx.is ∙ value_goes_on _ c.in-Ok.ensures ∙ value_goes_on _ c.in-Ok-address.ensures) c.of_range.ensures

pub returns-in-Ok-address-2 : goal.returns-in-Ok-address-2
unfolding tells
returns-in-Ok-address-2 c =
    told_of _ (ap (tells _ _ _) c.in-StartxLength.is ∙ value_goes_on _ c.in-Ok-address-2.ensures)
    (c.of_range-in-StartxLength.ensures ∙ ap (of_range c.args.unit.now.encoding.address_size c.in-Ok-address-2.b) c.wrapping_add_sized-e.ensures)

pub returns-in-OffsetPair : goal.returns-in-OffsetPair
unfolding tells
returns-in-OffsetPair c = told_of _ (ap (tells _ _ _) c.in-OffsetPair.is) c.of_offsets-in-OffsetPair.ensures

pub returns-in-StartEnd : goal.returns-in-StartEnd
unfolding tells
returns-in-StartEnd c = told_of _ (ap (tells _ _ _) c.in-StartEnd.is) c.of_range-in-StartEnd.ensures

pub returns-in-StartLength : goal.returns-in-StartLength
unfolding tells
returns-in-StartLength c =
    told_of _ (ap (tells _ _ _) c.in-StartLength.is)
    (c.of_range-in-StartLength.ensures ∙ ap (of_range c.args.unit.now.encoding.address_size c.in-StartLength.b) c.wrapping_add_sized-e-in-StartLength.ensures)
