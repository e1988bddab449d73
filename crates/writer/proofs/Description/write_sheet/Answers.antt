-- `writer::Description::write_sheet` meets its contract: the sections, one after another. Assumes nothing.
use Rattle.writer.proofs.Stores.{pins-room, a-room, b-room, count-room, rules-room, sheet-written}
use Rattle.writer.proofs.Description.write_sheet.Goals as goal

pub write_pins-requires-clause-room : goal.write_pins-requires-clause-room
write_pins-requires-clause-room c = pins-room c.args.page.now _ c.self.view_is c.requires.room

pub write_set-requires : goal.write_set-requires
write_set-requires c = a-room _ _ c.self.view_is c.requires.room c.write_pins.ensures

pub write_set-requires-2 : goal.write_set-requires-2
write_set-requires-2 c = b-room _ _ c.self.view_is c.requires.room c.write_pins.ensures c.write_set.ensures

pub write_two-requires : goal.write_two-requires
write_two-requires c = count-room _ _ c.self.view_is c.requires.room c.write_pins.ensures c.write_set.ensures c.write_set-2.ensures

pub write_rules-requires : goal.write_rules-requires
write_rules-requires c = rules-room _ _ c.self.view_is c.requires.room c.write_pins.ensures c.write_set.ensures c.write_set-2.ensures c.write_two.ensures

pub returns : goal.returns
returns c = sheet-written _ _ c.self.view_is c.requires.room c.write_pins.ensures c.write_set.ensures c.write_set-2.ensures c.write_two.ensures c.write_rules.ensures
