pub mod TaskOfFault
