-- One name that opens every definition, so that an example is proved by computing both sides.
use lib.Ieee.{eq}
use Rattle.solids.proofs.Computing.{computing as solids-computing}
use Rattle.wing.specs.Wing.{wing_rules, wing_outcome, wing_buffer, uploaded_buffer}
use Rattle.sweep.specs.Sweep.{sweep_rules, swept_words, sweep_outcome, sweep_buffer}
use Rattle.boundary.specs.Faces.{boundary_cells, faces_rules, faces_outcome, faces_buffer}
use Rattle.points.proofs.Computing.{computing as points-computing}
use Rattle.motion.specs.Move.{moved_levels, move_rules, move_outcome, move_buffer}
use Rattle.file.specs.File.{file_points, file_cells}
use Rattle.file.specs.Tests.{file_words}
use Rattle.read.specs.Read.{read_rules, header_of, read_outcome, read_cells, read_points}
use Rattle.printing.specs.Decimal.{digits, thousandths, coordinate}
use Rattle.listing.specs.Lines.{first_line, vertex_line, face_line, key_text}
use Rattle.list.specs.List.{list_text, list_rules, list_outcome, list_buffer}
use Rattle.winged.specs.Host.{host_wing_outcome, host_wing, host_wing_buffer, host_uploaded_buffer, host_sweep_outcome, host_sweep}
use Rattle.winged.specs.Host.{host_sweep_buffer, host_faces_outcome, host_faces}
use Rattle.winged.specs.Host.{host_faces_buffer}
use Rattle.page.specs.Key.{key_outcome, printed}

unfoldable pub computing : Unit {0}
unfolding eq solids-computing points-computing wing_rules wing_outcome wing_buffer uploaded_buffer sweep_rules swept_words
    sweep_outcome sweep_buffer boundary_cells
    faces_rules faces_outcome faces_buffer moved_levels move_rules move_outcome move_buffer file_points file_cells read_rules header_of file_words
    read_outcome
    read_cells read_points digits thousandths coordinate first_line vertex_line face_line key_text list_text list_rules list_outcome list_buffer
    key_outcome
    printed host_wing_outcome host_wing host_wing_buffer host_uploaded_buffer host_sweep_outcome host_sweep
    host_sweep_buffer host_faces_outcome host_faces host_faces_buffer
computing = tt
